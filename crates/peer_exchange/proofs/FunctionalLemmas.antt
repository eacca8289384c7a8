-- Where the type of the source fixes the names of its groups.
use mathlib.Core.Logic.{∥∥₁_map}
use mathlib.Core.Path.{fun_ext}
use Rattle.std.proofs.Common.{◌≡◌, ℕ, List, [], Option, subst}
use Rattle.peer_source.specs.Answers.{Answer}
use Rattle.peer_exchange.specs.ExchangeStates.{Upholds}
use Rattle.peer_exchange.specs.declared.exchange_state.ExchangeState.{ExchangeState}

module _ {S : Type 0} where
  -- what follows under the type's names follows from what is upheld under the source's
  pub by_fixed_names : {P : Type 0} (numbers fixed : List ℕ → Option ℕ) (answers : ℕ → List ℕ → Answer → Type 0) (came sent : List ℕ)
      (e : ExchangeState S) → ((name : List ℕ) → numbers name ≡ fixed name) → (Upholds fixed answers came sent [] e → P)
      → ∥ Upholds numbers answers came sent [] e ∥₁ → ∥ P ∥₁
  by_fixed_names numbers fixed answers came sent e same f upheld =
      ∥∥₁_map upheld (λ h. f (subst (λ v. Upholds v answers came sent [] e) (fun_ext same) h))
