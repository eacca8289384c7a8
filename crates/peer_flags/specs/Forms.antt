-- The form of lines that a word names.
use Rattle.std.specs.Prelude.{ℕ, List, Option, Some, None, codes, cond, bytes_eq}
use Rattle.peer_log.specs.declared.entry.LogForm.{LogForm}
use Rattle.peer_log.specs.declared.entry.LogForm.TheVariants as form

abbrev pub form_named : List ℕ → Option LogForm
form_named word = cond (bytes_eq word (codes "text")) (Some form.Text) (cond (bytes_eq word (codes "json")) (Some form.Json) None)
