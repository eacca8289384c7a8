-- Which answer a request gets.
use Rattle.std.specs.Prelude.{ℕ, List, Bool, codes, bytes_eq, ◌||◌, cond}
use Rattle.peer_stats.specs.declared.answer.Answer.{Answer}
use Rattle.peer_stats.specs.declared.answer.Answer.TheVariants as answer

-- the methods that are answered
abbrev pub is_reading : List ℕ → Bool
is_reading method = bytes_eq method (codes "GET") || bytes_eq method (codes "HEAD")

-- the page at a path
abbrev pub page_at : List ℕ → Answer
page_at path = cond (bytes_eq path (codes "/metrics")) answer.Metrics
    (cond (bytes_eq path (codes "/healthz")) answer.Health
    (cond (bytes_eq path (codes "/readyz")) answer.Ready answer.NotFound))

-- by its method and its path
abbrev pub answer_to : List ℕ → List ℕ → Answer
answer_to method path = cond (is_reading method) (page_at path) answer.NotAllowed
