-- The bytes that open the content of a reply.
use Rattle.std.specs.Prelude.{ℕ, List}
use Rattle.peer_reply.specs.declared.opening.Opening.{Opening}
use Rattle.peer_reply.specs.declared.opening.Opening.TheVariants as opening

abbrev pub opening_bytes : Opening → List ℕ
opening_bytes (opening.Body bytes) = bytes.items
opening_bytes (opening.Text text) = text.now
