use Rattle.std.proofs.Common.{rules, ◌≡◌, None}
use Rattle.peer_http.specs.Fields.{fault_of}
use Rattle.peer_http.proofs.FieldLemmas as lemma
use Rattle.peer_http.proofs.field.Field.new.Goals as goal

pub invariant_of-result : goal.invariant_of-result
invariant_of-result c =
    let none : fault_of (c.in-Ok.name.items, c.in-Ok-to_vec.value.items) ≡ None = search rules in
    record { addable = lemma.addable (c.in-Ok.name.items, c.in-Ok-to_vec.value.items) none }
