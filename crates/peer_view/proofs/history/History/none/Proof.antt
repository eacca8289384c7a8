-- `none` makes a value of no bytes, whose ghost field is the empty list.
use mathlib.Core.Path.{refl}
use mathlib.Core.List.{[], ◌∷◌}
use mir.Val.{Val, vstruct, vcons, vnil}
use base.Fml.{Fml}
use types.Kit.{‵, raw, ◌⊛◌, ◌$◌, ◌∵◌, !, qed, move, keep, split, join, use0, suffices, done}
use types.Run.{no_more, and_then, returns, enter}
use types.Part.{agg}
use types.ByLocal.{alloc_all, pass_all, free_all, look_at, get, sets}
use denote.RattleType.{owns}
use denote.Shadow.{makes_shadow}
use denote.Signature.{types_at, type_at}
use denote.Steps.{nothing}
use denote.Triple.Entry.{Res, alive}
use denote.Triple.Walked.{says, Stays, walk_of, ends_at}
use Rattle.std.proofs.raw_atomic.Walks.{proved}
use Rattle.peer_view.specs.contracts.history.History.none as f
use Rattle.peer_view.proofs.history.History.none.Statement.{statement}
use Rattle.peer_view.proofs.history.History.none.Code as code

abbrev stayed : Stays f.ended.signature.params f.ended.kept
stayed = tt

pub none_spec : {M : Type 1} → statement M
none_spec 𝓤 𝓛 𝓜 𝓡 wired =
    let c = f.clauses 𝓛 𝓜.mem 𝓡.returns in let W = walk_of 𝓛 f.ended stayed c in
    proved 𝓛 f.ended stayed c 𝓜 𝓡 tt f.Key.name code.function (code.unfolded 𝓤 𝓛.H 𝓜 𝓡 wired) (λ κs. tt) (λ κs. tt) (λ κs qs bounds a g are.
    let y : W.Ghost = ((κs, qs, bounds, a, tt), tt) in
    let v : Val = vstruct (vcons (vstruct vnil) vnil) in
    let r : Res f.signature κs = record { marker = record {}; bytes = [] } in
    let O : Fml = (type_at f.signature.result κs).own_val r (v ∷ []) in
    qed 𝓛 ((raw (alive 𝓛 f.signature κs qs) ⊛ ‵ (owns (types_at f.signature.params κs) a y.0.4)) ∷ raw ((c κs a).requires g) ∷ []) ∵ split ! $ keep ! (0 ∷ []) $
    enter ! _ _ _ _ _ $ alloc_all ! (λ l. pass_all ! refl tt $
    sets ! (agg ! (no_more !)) refl (tt, tt) $ sets ! (agg ! (and_then ! (get ! refl) (no_more !))) refl (tt, (tt, tt)) $
    returns ! (look_at ! 0 refl) $ free_all ! refl $
    use0 𝓛 (‵ O) (makes_shadow 𝓛 O ((λ vss. (tt, ((λ uss. (tt, tt)), tt))), tt) (((vstruct vnil ∷ [], tt), (refl, ((tt, (refl, tt)), tt))), tt)) $
    suffices ! _ (ends_at 𝓛 f.ended stayed c y v r tt tt) $ says ! refl $
    nothing ! $ join ! $ move ! (1 ∷ 0 ∷ []) $ join ! $ done !))
