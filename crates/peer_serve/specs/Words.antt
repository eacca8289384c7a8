-- What the words behind the program's name ask for.
use Rattle.std.specs.Prelude.{◌≡◌, ℕ, ◌<◌, ◌≤◌, List, [], ◌∷◌, codes, Bool, true, false, Option, Some, None, String, string_bytes}
use Rattle.std.specs.declared.alloc.Global.{Global}
use Rattle.std.specs.Str.Parse.{IsNumeral, digits_value}
use Rattle.peer_serve.specs.declared.args.Mode.{Mode}
use Rattle.peer_serve.specs.declared.args.Mode.TheVariants as mode

-- the word is decimal digits alone, which write a number from 1 to `most`
pub record IsNumber (most : ℕ) (word : List ℕ) (n : ℕ) : Type 0 where
  pub digits : IsNumeral 10 word
  pub value : digits_value 10 word ≡ n
  pub some : 0 < n
  pub within : n ≤ most

-- the three words are the numbers of a server
pub record AreNumbers (w c r : List ℕ) (workers conns rounds : ℕ) : Type 0 where
  pub workers_word : IsNumber 16 w workers
  pub conns_word : IsNumber 16 c conns
  pub rounds_word : IsNumber 1000000000 r rounds

-- a server at an address, where the three words behind it are its numbers
abbrev pub IsServer : List ℕ → List ℕ → List ℕ → List ℕ → Bool → Option Mode → Type 0
IsServer a w c r t None = (workers conns rounds : ℕ) → AreNumbers w c r workers conns rounds → ⊥
IsServer a w c r t (Some mode.Pipe) = ⊥
IsServer a w c r t (Some (mode.Server s)) = (s.address.now ≡ a) × AreNumbers w c r s.workers s.conns s.rounds × (s.table ≡ t)

-- what the words ask for: a pipe, a server, or a server with a table; nothing else is served
abbrev pub ReadsAs : List (String Global) → Option Mode → Type 0
ReadsAs [] result = result ≡ Some mode.Pipe
ReadsAs (a ∷ w ∷ c ∷ r ∷ []) result = IsServer (string_bytes a) (string_bytes w) (string_bytes c) (string_bytes r) false result
ReadsAs (a ∷ w ∷ c ∷ r ∷ t ∷ []) result =
    (string_bytes t ≡ codes "-" → IsServer (string_bytes a) (string_bytes w) (string_bytes c) (string_bytes r) true result)
    × ((string_bytes t ≡ codes "-" → ⊥) → result ≡ None)
ReadsAs _ result = result ≡ None
