-- The bytes of a view, wherever it holds them.
use Rattle.std.specs.Prelude.{ℕ, List}
use Rattle.peer_view.specs.declared.view.held.Held.{Held}
use Rattle.peer_view.specs.declared.view.held.Held.TheVariants.{Short, Shared}

-- the bytes, in the view itself or in a shared buffer
abbrev pub held_bytes : Held → List ℕ
held_bytes (Short bytes) = bytes
held_bytes (Shared bytes) = bytes
