-- What a value is that a fetch found, and what answer it is.
use Rattle.std.specs.Prelude.{◌≡◌, ◌≢◌, ◌⊎◌, ◌≤◌, ℕ, Bool, false, List, [], length, take, Option, Some, None, Vec, IfErr, IfOk, IsSomeAnd, IsTrue}
use Rattle.std.specs.declared.alloc.Global.{Global}
use Rattle.peer_origin.specs.Fetched.{IfStatus}
use Rattle.peer_origin.specs.Fetches.{Use}
use Rattle.peer_origin.specs.declared.fault.FetchFault.{FetchFault}
use Rattle.peer_origin.specs.declared.fault.FetchFault.TheVariants as fault
use Rattle.peer_origin.specs.declared.failure.Failure.{Failure}
use Rattle.peer_origin.specs.declared.failure.Failure.TheVariants as fail
use Rattle.peer_http.specs.Replies.{HasHead, IsReply}
use Rattle.peer_source.specs.Answers.{Answer}
use Rattle.peer_view.specs.Sinks.{MAX_VALUE}
use Rattle.peer_value.specs.Fetchings.{GoesOnAnew, IsFoundIn, IsFreeBehind, uses_by}
use Rattle.peer_value.specs.declared.fetching.Answer as fetched
use Rattle.peer_value.specs.declared.fetching.Fetching.{Fetching}

-- the whole request was sent
abbrev pub IsSent : Fetching → Type 0
IsSent f = length f.request.items ≤ f.sent

-- nothing of the request was sent, nothing came, and no end was told
abbrev pub IsUnused : Fetching → Type 0
IsUnused f = (f.sent ≡ 0) × (f.receiving.came.bytes ≡ []) × (f.ended ≡ false)

-- a network says that a connection carried what was sent of the request and nothing else, and what came
abbrev pub IsCarried : (List ℕ → List ℕ → Bool → Type 0) → Fetching → Type 0
IsCarried carried f = ∥ carried (take f.sent f.request.items) f.receiving.came.bytes f.ended ∥₁

-- the uses of all connections of a fetch, the last one first
abbrev pub uses_of : Fetching → List Use
uses_of f = uses_by f.request.items f.sent f.receiving.came.bytes f.ended f.first

-- the same request once more, behind the one use of a connection on which nothing came
abbrev pub IsSecondTry : Fetching → Fetching → Type 0
IsSecondTry f f' = (f'.request.items ≡ f.request.items) × GoesOnAnew f.request.items (uses_of f) (uses_of f')

-- a second try may be: this is the first one, and nothing came
abbrev pub MayGoOnAnew : Fetching → Type 0
MayGoOnAnew f = (f.first ≡ None) × (f.receiving.came.bytes ≡ [])

-- the same request in the same try, so much of it sent
abbrev pub IsSameTry : Fetching → Fetching → Type 0
IsSameTry f f' = (f'.request.items ≡ f.request.items) × (f'.sent ≡ f.sent) × (f'.first ≡ f.first)

-- why no second try is made: memory, or the request itself; or there was one, or bytes came, and the value is lost
abbrev pub IsRefusedFor : Fetching → FetchFault → Type 0
IsRefusedFor f why = (why ≡ fault.Memory) ⊎ (why ≡ fault.Malformed) ⊎ ((why ≡ fault.Lost) × ¬ (MayGoOnAnew f))

-- another request may follow on the connection of the fetch
abbrev pub IsFree : Fetching → Type 0
IsFree f = IsFreeBehind f.receiving.came.bytes f.receiving.client

-- the value was found on the connections of this very fetch, and is within the limit of a value
abbrev pub IsValueOf : Fetching → Vec ℕ Global → Type 0
IsValueOf f value = (length value.items ≤ MAX_VALUE) × ∥ IsFoundIn f.request.items f.sent f.receiving.came.bytes f.ended f.first value ∥₁

-- there is no value, since the reply that came has this status, which is not 200
abbrev pub IsStatusOf : List ℕ → FetchFault → Type 0
IsStatusOf came why = (status : ℕ) × (content : List ℕ) × (why ≡ fault.Status status) × (status ≢ 200) × ∥ IsReply came status content ∥₁

-- the whole request was sent, and the head of a reply of this status came, which is not 200
pub record TellsStatus (f : Fetching) (status : ℕ) : Type 0 where
  pub sent : IsSent f
  pub head : ∥ HasHead f.receiving.came.bytes status ∥₁
  pub other : status ≢ 200

-- if a fault tells a status, it is that of this fetch
abbrev pub IsToldBy : Option Fetching → FetchFault → Type 0
IsToldBy by why = IfStatus why (λ status. IsSomeAnd by (λ f. TellsStatus f status))

-- if a failure tells a status, it is that of this fetch
abbrev pub IsFailureOf : Fetching → Failure → Type 0
IsFailureOf f fail.Silent = Unit {0}
IsFailureOf f (fail.Fetch why) = IfStatus why (TellsStatus f)

-- the answer of a fetch: the whole request was sent, its value is one that the fetch found, it has none for the status of the reply alone, and another request
-- may follow where the answer says so
pub record IsAnswerOf (f : Fetching) (a : fetched.Answer) : Type 0 where
  pub sent : IsSent f
  pub keeps : IsTrue a.keeps → IsFree f
  pub value : IfOk a.value (IsValueOf f)
  pub status : IfErr a.value (IsStatusOf f.receiving.came.bytes)
  pub told : IfErr a.value (IsToldBy (Some f))

-- this is the answer, or there is none, where memory was refused
abbrev pub AnswersBy : Answer → Option Answer → Type 0
AnswersBy a answer = (answer ≡ Some a) ⊎ (answer ≡ None)
