-- What a summary of fields tells of them.
use Rattle.std.specs.Prelude.{◌≡◌, ℕ, ◌<◌, nat_lt, true, false, List, [], length, All}
use Rattle.std.specs.List.{list_any}
use Rattle.peer_head.specs.declared.summary.Lengths.{Lengths}
use Rattle.peer_head.specs.declared.summary.Lengths.TheVariants.{Missing as no_length, Agreed, Bad}
use Rattle.peer_head.specs.declared.summary.Hosts.{Hosts}
use Rattle.peer_head.specs.declared.summary.Hosts.TheVariants.{Missing as no_host, Single, Repeated}
use Rattle.peer_head.specs.declared.summary.FieldSummary.{FieldSummary}
use Rattle.peer_head.specs.Heads.{HeadField}
use Rattle.peer_head.specs.Fields.{is_digits, asks_close}
use Rattle.peer_head.specs.Faults.{codings, lengths, hosts, connections, is_length}

-- the values are one number, in the same digits
pub record AgreesOn (vs : List (List ℕ)) (number : List ℕ) : Type 0 where
  pub some : 0 < length vs
  pub digits : is_digits number ≡ true
  pub same : All (λ v. v ≡ number) vs

-- what the values of the fields Content-Length say
abbrev pub IsLengthsOf : List (List ℕ) → Lengths → Type 0
IsLengthsOf vs no_length = vs ≡ []
IsLengthsOf vs (Agreed number) = AgreesOn vs number.now
IsLengthsOf vs Bad = is_length vs ≡ false

-- how many fields Host there are
abbrev pub IsHostsOf : ℕ → Hosts → Type 0
IsHostsOf count no_host = count ≡ 0
IsHostsOf count Single = count ≡ 1
IsHostsOf count Repeated = 1 < count

-- what the rules on heads ask of the fields
pub record IsSummaryOf (fields : List HeadField) (t : FieldSummary) : Type 0 where
  pub coding : t.has_coding ≡ nat_lt 0 (length (codings fields))
  pub lengths_are : IsLengthsOf (lengths fields) t.lengths
  pub hosts_are : IsHostsOf (length (hosts fields)) t.hosts
  pub closes : t.closes ≡ list_any asks_close (connections fields)
