-- The fields of a request as names and values.
use Rattle.std.specs.Prelude.{List, map}
use Rattle.http1.specs.Fields.{Header}
use Rattle.peer_http.specs.declared.field.Field.{Field}

-- the name and the value of a field
abbrev pub line_of : Field → Header
line_of field = (field.name.items, field.value.items)

-- those of each, in order
abbrev pub lines_of : List Field → List Header
lines_of fields = map line_of fields
