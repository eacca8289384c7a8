-- Laws of lists of bytes, joined.
use Rattle.std.proofs.Common.{◌≡◌, ℕ, List, [], ◌∷◌, ◌++◌, refl, ◌∙◌, ap, append_assoc}
use Rattle.peer_reply.specs.Joins.{join}

pub join-append : (rs ss : List (List ℕ)) → join rs ++ join ss ≡ join (rs ++ ss)
join-append [] ss = refl
join-append (r ∷ rs) ss = append_assoc r (join rs) (join ss) ∙ ap (λ v. r ++ v) (join-append rs ss)
