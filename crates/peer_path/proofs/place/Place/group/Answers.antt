use Rattle.std.proofs.Common.{◌-◌, ℕ, List, take, drop, ap, ◌∙◌}
use Rattle.peer_path.specs.Places.{PlaceParts}
use Rattle.peer_path.proofs.place.Place.group.Goals as goal

pub returns : goal.returns
returns c =
    ap (λ (l : List ℕ). take (c.self.inside.slash - 13) (drop 13 l)) c.as_slice.ensures.value
    ∙ ap (λ (p : PlaceParts). p.group) c.self.view_is
