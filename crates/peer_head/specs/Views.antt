-- The parts of a head by their places in its block.
use Rattle.std.specs.Prelude.{◌≡◌, ℕ, Bool, List, length, map, take}
use Rattle.httparse.specs.declared.spans.HeaderSpan.{HeaderSpan}
use Rattle.httparse.specs.declared.spans.RequestSpans.{RequestSpans}
use Rattle.httparse.specs.Spans.{span_bytes, IsRequestWithin}
use Rattle.peer_head.specs.Heads.{HeadField, HeadParts, IsHead, MAX_FIELDS}
use Rattle.peer_head.specs.Faults.{is_closing}

-- the field that the spans cover
abbrev pub field_at : List ℕ → HeaderSpan → HeadField
field_at block h = record { name = span_bytes block h.name; value = span_bytes block h.value }

-- the parts that the spans cover
abbrev pub parts_at : List ℕ → List HeaderSpan → RequestSpans → HeadParts
parts_at block fields r = record {
  method = span_bytes block r.method;
  target = span_bytes block r.path;
  minor = r.version;
  fields = map (field_at block) (take r.headers fields);
}

-- the block is a head, whose parts the spans cover
pub record IsHeadAt (block : List ℕ) (fields : List HeaderSpan) (r : RequestSpans) : Type 0 where
  pub within : IsRequestWithin block fields r
  pub head : IsHead block (parts_at block fields r)

-- what a view keeps: its spans lie in the block, among places for the most fields, and it knows whether the head closes
pub record IsViewOf (block : List ℕ) (fields : List HeaderSpan) (r : RequestSpans) (closing : Bool) : Type 0 where
  pub within : IsRequestWithin block fields r
  pub few : length fields ≡ MAX_FIELDS
  pub closes : closing ≡ is_closing (parts_at block fields r)
