-- The request that the client of HTTP writes, without fields of a group, and the client behind it.
use Rattle.std.proofs.Common.{◌≡◌, ℕ, List, [], ◌∷◌, ◌++◌, codes, append_assoc, append-nil, ap, ◌∙◌, refl, subst, sym, Result, Ok, Err}
use Rattle.http1.specs.declared.client.Client.{Client}
use Rattle.http1.specs.declared.conn.BodySize.TheVariants.{Empty}
use Rattle.http1.specs.declared.error.WriteError.{WriteError}
use Rattle.httparse.specs.Grammar.{print_request}
use Rattle.http1.specs.Client.{new_client, planned_request, after_request, requesting, request_plan, after_end, plan_fields, writing}
use Rattle.http1.specs.Conn.{Plan, finish_text}
use Rattle.http1.specs.Fields.{Header, known_fields}
use Rattle.http1.specs.Text.{eq_ignore_case}
use Rattle.peer_http.specs.Fields.{crlf}
use Rattle.peer_http.specs.Requests.{LIMITS, Awaits, head_for}

-- the fields of a request
abbrev pub headers_for : List ℕ → List Header
headers_for host = (codes "host", host) ∷ (codes "user-agent", codes "peer_front") ∷ []

-- the client once the head of the request was written
abbrev pub asking : List ℕ → Client
asking host = after_request (new_client LIMITS) (codes "GET") Empty (headers_for host)

-- what the client writes: its head, and what ends it
abbrev pub written_for : List ℕ → List ℕ → List ℕ
written_for host target =
    planned_request (new_client LIMITS) (codes "GET") target Empty (headers_for host) ++ finish_text (writing (asking host)) []

nested : (a b c d : List ℕ) → a ++ b ++ c ++ d ≡ a ++ (b ++ (c ++ d))
nested a b c d = simp append_assoc

all_nested : (g a h b u c d : List ℕ) → g ++ a ++ h ++ b ++ u ++ c ++ d ≡ g ++ (a ++ (h ++ (b ++ (u ++ (c ++ d)))))
all_nested g a h b u c d = simp append_assoc

pub written_is : (host target : List ℕ) → written_for host target ≡ head_for host target ++ crlf
unfolding print_request plan_fields known_fields eq_ignore_case
written_is host target =
    let line : List ℕ = codes "GET " ++ target ++ codes " HTTP/1.1" ++ crlf in
    let agent : List ℕ = codes "user-agent: peer_front" in
    append-nil (planned_request (new_client LIMITS) (codes "GET") target Empty (headers_for host))
    ∙ ap (λ t. line ++ (codes "host: " ++ t)) (nested host crlf (agent ++ crlf) crlf)
    ∙ sym (all_nested line (codes "host: ") host crlf agent crlf crlf)

by_plan : (host : List ℕ) (p : Result Plan WriteError) → Awaits (after_end (requesting (new_client LIMITS) (codes "GET") (headers_for host) p))
by_plan host (Ok p) = record { head = refl; sent = refl; method = refl; limits = refl }
by_plan host (Err e) = record { head = refl; sent = refl; method = refl; limits = refl }

-- the client awaits a reply, once the request was ended
pub awaits_reply : (host : List ℕ) (c : Client) → c ≡ after_end (asking host) → Awaits c
awaits_reply host c e = subst Awaits (sym e) (by_plan host (request_plan (new_client LIMITS) (codes "GET") Empty (headers_for host)))
