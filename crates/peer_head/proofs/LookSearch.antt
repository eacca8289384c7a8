-- Each text looks some way.
use Rattle.std.proofs.Common.{◌≡◌, List, ℕ, refl, Option, Some, None, false}
use Rattle.peer_head.specs.declared.fault.HeadFault.{HeadFault}
use Rattle.peer_head.specs.declared.fault.HeadFault.TheVariants.{TooLong, NotAHead}
use Rattle.peer_head.specs.declared.look.Look.{Look}
use Rattle.peer_head.specs.declared.look.Look.TheVariants.{Need, Head, Fault}
use Rattle.peer_head.specs.Blocks.{Begins}
use Rattle.peer_head.specs.Heads.{HeadParts, IsHead}
use Rattle.peer_head.specs.Faults.{head_fault, is_bare}
use Rattle.peer_head.specs.Looks.{LooksAs, too_long, no_head, of_head}
use Rattle.peer_head.specs.Laws.{LooksSomeWay}
use Rattle.peer_head.proofs.BlockSearch.{BlockOf, is_block, is_too_long, is_unfinished, block_of}
use Rattle.peer_head.proofs.HeadReader.{HeadOf, is_head, is_none, head_of}

-- a text that begins with a head
look_of_head : (t block rest : List ℕ) → Begins t block rest → (p : HeadParts) → IsHead block p → (fault : Option HeadFault)
    → head_fault p ≡ fault → (a : Look) × LooksAs t a
look_of_head t block rest begins p head None e = (Head p, record { block = block; rest = rest; begins = begins; head = head; fine = e })
look_of_head t block rest begins p head (Some f) e = (Fault f (is_bare p), of_head block rest begins p head f e)

-- a text that begins with a block
look_of_block : (t block rest : List ℕ) → Begins t block rest → HeadOf block → (a : Look) × LooksAs t a
look_of_block t block rest begins (is_head p head) = look_of_head t block rest begins p head (head_fault p) refl
look_of_block t block rest begins (is_none none) = (Fault NotAHead false, no_head block rest begins none)

-- a text by what it begins with
look_of : (t : List ℕ) → BlockOf t → (a : Look) × LooksAs t a
look_of t (is_block b) = look_of_block t b.0 b.1.0 b.1.1 (head_of b.0)
look_of t (is_too_long h) = (Fault TooLong false, too_long h)
look_of t (is_unfinished h) = (Need, h)

-- each text looks some way
pub looks_some_way_law : LooksSomeWay
looks_some_way_law t = look_of t (block_of t)
