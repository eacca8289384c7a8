-- The law that each source of found values needs: what counts as found is within the limit.
use Rattle.std.proofs.Common.{◌≡◌, ℕ, List, length, true, false, refl}
use Rattle.std.specs.Prelude.{leb, cond, Some}
use Rattle.std.proofs.lemmas.Bool.{leb-true}
use Rattle.peer_view.specs.Sinks.{MAX_VALUE}
use Rattle.peer_source.specs.Answers.{Found, Failed, IsWithinLimit, found_within, too_long_text}

pub found_is_within : (value : List ℕ) → IsWithinLimit (Some (found_within value))
found_is_within value =
    (elim (leb (length value) MAX_VALUE) as (λ b. leb (length value) MAX_VALUE ≡ b
    → IsWithinLimit (Some (cond b (Found value) (Failed too_long_text)))) [
      | true ↦ λ fits. leb-true (length value) MAX_VALUE fits
      | false ↦ λ _. tt
    ]) refl
