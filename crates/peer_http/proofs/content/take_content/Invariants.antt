use Rattle.std.proofs.Common.{◌≡◌, ℕ, List, ◌≤◌, length}
use Rattle.http1.specs.declared.conn.Reading.TheVariants as Reads
use Rattle.http1.specs.declared.decode.Decoder.{Decoder}
use Rattle.peer_http.specs.Receivings.{IsInContent}
use Rattle.peer_http.proofs.content.take_content.Given as goal

abbrev pub invariant-loop-piece : goal.invariant-loop-piece
invariant-loop-piece l = record {
  within : length l.value.items ≤ l.most;
  reads : (d : Decoder) → l.fn.client.reading ≡ Reads.Body d → (e : Decoder) × (l.client.reading ≡ Reads.Body e);
  keeps : (came : List ℕ) (status : ℕ) → IsInContent came status l.fn.client l.fn.intake l.fn.value.items → IsInContent came status l.client l.intake l.value.items;
}
