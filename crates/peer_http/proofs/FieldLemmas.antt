-- What has no fault may be added to a request.
use Rattle.std.proofs.Common.{◌≡◌, ◌&&◌, Bool, true, false, not, if◌then◌else◌, IsTrue, Some, None, refl, arith}
use Rattle.http1.specs.Fields.{Header}
use Rattle.http1.specs.Head.{is_trimmed_value}
use Rattle.httparse.specs.Grammar.{is_token}
use Rattle.peer_http.specs.Fields.{fault_of, is_own, may_be_added}
use Rattle.peer_http.specs.declared.fault.FieldFault.TheVariants as refused

by_cases : (token own trimmed : Bool)
    → (if not token then Some refused.Name else (if own then Some refused.Own else (if trimmed then None else Some refused.Value))) ≡ None
    → IsTrue (token && (not own && trimmed))
by_cases true false true e = refl
by_cases true false false e = absurd (grind (arith, e))
by_cases true true trimmed e = absurd (grind (arith, e))
by_cases false own trimmed e = absurd (grind (arith, e))

pub addable : (f : Header) → fault_of f ≡ None → IsTrue (may_be_added f)
addable f e = by_cases (is_token f.0) (is_own f.0) (is_trimmed_value f.1) e
