-- Texts that were appended one behind the other.
use Rattle.std.proofs.Common.{◌≡◌, ◌∙◌, List, ℕ, [], ◌++◌, ap, append_assoc}

pub joined : (page more text : List ℕ) → {next last : List ℕ} → next ≡ page ++ more → last ≡ next ++ text → last ≡ page ++ (more ++ text)
joined page more text first second = second ∙ ap (λ v. v ++ text) first ∙ append_assoc page more text

pub joined_by : {X : Type 0} (page more : List ℕ) (text : X → List ℕ) → {next last : List ℕ} {x y : X} → next ≡ page ++ more
    → last ≡ next ++ text x → x ≡ y → last ≡ page ++ (more ++ text y)
joined_by page more text first second same = joined page more (text _) first second ∙ ap (λ v. page ++ (more ++ text v)) same

pub from_nothing : (page text : List ℕ) → {last : List ℕ} → page ≡ [] → last ≡ page ++ text → last ≡ text
from_nothing page text none all = all ∙ ap (λ v. v ++ text) none
