use Rattle.std.proofs.Common.{◌+◌, drop, ap, ◌∙◌}
use Rattle.std.proofs.lemmas.List.{take_rest}
use Rattle.peer_path.specs.Places.{PlaceParts}
use Rattle.peer_path.proofs.place.Place.key.Goals as goal

pub returns : goal.returns
returns c =
    take_rest c.as_slice.result.now (c.self.inside.slash + 1) ∙ ap (drop (c.self.inside.slash + 1)) c.as_slice.ensures.value
    ∙ ap (λ (p : PlaceParts). p.key) c.self.view_is
