-- A line: an entry as text or as an object of JSON, with its time.
use Rattle.std.specs.Prelude.{ℕ, List, [], ◌∷◌, ◌++◌, codes, decimal, flat_map}
use Rattle.peer_log.specs.Escapes.{escaped_text}
use Rattle.peer_log.specs.declared.entry.Entry.{Entry}
use Rattle.peer_log.specs.declared.entry.Field.{Field}
use Rattle.peer_log.specs.declared.entry.Level.{Level}
use Rattle.peer_log.specs.declared.entry.Level.TheVariants as level
use Rattle.peer_log.specs.declared.entry.LogForm.{LogForm}
use Rattle.peer_log.specs.declared.entry.LogForm.TheVariants as form
use Rattle.peer_log.specs.declared.entry.Said.{Said}
use Rattle.peer_log.specs.declared.entry.Said.TheVariants as said
use Rattle.peer_log.specs.declared.escape.Escapes.{Escapes}
use Rattle.peer_log.specs.declared.escape.Escapes.TheVariants as escapes

-- how bad it is
abbrev pub level_text : Level → List ℕ
level_text level.Info = codes "info"
level_text level.Warn = codes "warn"

-- what a field says
abbrev pub said_text : Said → List ℕ
said_text (said.Number n) = decimal n
said_text (said.Name name) = escaped_text escapes.Url name.now
said_text (said.Word word) = escaped_text escapes.Word word.now

-- a string of JSON
abbrev pub string_text : Escapes → List ℕ → List ℕ
string_text e text = codes "\"" ++ escaped_text e text ++ codes "\""

-- the same in JSON: a number, or a string
abbrev pub json_said : Said → List ℕ
json_said (said.Number n) = decimal n
json_said (said.Name name) = string_text escapes.Url name.now
json_said (said.Word word) = string_text escapes.Word word.now

-- a field
abbrev pub field_text : Field → List ℕ
field_text f = codes " " ++ f.name.now ++ codes "=" ++ said_text f.said

-- a field in JSON
abbrev pub json_field : Field → List ℕ
json_field f = codes ",\"" ++ f.name.now ++ codes "\":" ++ json_said f.said

-- all fields, in their order
abbrev pub fields_text : List Field → List ℕ
fields_text fields = flat_map field_text fields

abbrev pub json_fields : List Field → List ℕ
json_fields fields = flat_map json_field fields

-- what stands between what happened and the fields, if there are some
abbrev pub colon : List Field → List ℕ
colon [] = []
colon (f ∷ fields) = codes ":"

-- a line of text
abbrev pub text_line : List ℕ → Entry → List ℕ
text_line time e =
    time ++ codes " " ++ level_text e.level ++ codes " " ++ escaped_text escapes.Sentence e.what.now ++ colon e.fields.now
    ++ fields_text e.fields.now ++ codes "\n"

-- a line of JSON
abbrev pub json_line : List ℕ → Entry → List ℕ
json_line time e =
    codes "{\"time\":\"" ++ time ++ codes "\",\"level\":\"" ++ level_text e.level ++ codes "\",\"what\":\""
    ++ escaped_text escapes.Sentence e.what.now ++ codes "\"" ++ json_fields e.fields.now ++ codes "}\n"

-- a line
abbrev pub line_text : LogForm → List ℕ → Entry → List ℕ
line_text form.Text time e = text_line time e
line_text form.Json time e = json_line time e
