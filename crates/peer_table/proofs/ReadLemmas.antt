-- Reads, one after another.
use Rattle.std.proofs.Common.{◌≡◌, ℕ, ◌+◌, ◌<◌, ◌≤◌, List, [], ◌++◌, length, Option, refl, ap, ◌∙◌, subst, arith, append-nil}
use Rattle.std.proofs.KnownBytes.{Appends-nil, Appends-trans}
use Rattle.std.specs.Io.KnownBytes.{Appends}
use Rattle.peer_view.specs.ReadWrite.{Reading}
use Rattle.peer_table.specs.Reads.{Gave, GaveAll, IsTooLarge}
use Rattle.peer_table.specs.Tables.{MAX_TEXT}

-- a reader after one more call
abbrev pub after : Reading → Option (List ℕ) → ℕ → ℕ → ℕ → Reading
after r g k e f = record r { given' = g; calls' = k; ends' = e; failures' = f }

-- no read was made
pub gave_none : (g : Option (List ℕ)) (k e f : ℕ)
    → Gave (record { given = g; given' = g; calls = k; calls' = k; ends = e; ends' = e; failures = f; failures' = f }) 0 []
gave_none g k e f = record { bytes = Appends-nil g; calls = omega arith; ends = refl; fine = refl }

module _ (r : Reading) (made reads : ℕ) (text p : List ℕ) (g : Option (List ℕ)) (k e f : ℕ) (h : Gave r made text)
    (more : Appends r.given' g p) (called : k ≡ r.calls' + 1) where
  -- a read that gave bytes
  pub gave_more : e ≡ r.ends' → f ≡ r.failures' → Gave (after r g k e f) (made + 1) (text ++ p)
  gave_more quiet fine = record {
    bytes = Appends-trans r.given r.given' g text p h.bytes more;
    calls = omega (arith, h.calls, called);
    ends = quiet ∙ h.ends;
    fine = fine ∙ h.fine;
  }

  -- a read that told the end
  pub gave_all : p ≡ [] → made < reads → length text ≤ MAX_TEXT → e ≡ r.ends' + 1 → f ≡ r.failures' → GaveAll (after r g k e f) reads text
  gave_all none below within told fine = record {
    bytes = subst (Appends r.given g) (ap (λ q. text ++ q) none ∙ append-nil text) (Appends-trans r.given r.given' g text p h.bytes more);
    calls = omega (arith, h.calls, called);
    told = omega (arith, told, h.ends);
    fine = fine ∙ h.fine;
    within = within;
  }

  -- a read that gave too much
  pub too_large : made < reads → length text ≤ MAX_TEXT → MAX_TEXT < length (text ++ p) → e ≡ r.ends' → f ≡ r.failures'
      → IsTooLarge (after r g k e f) reads
  too_large below within over quiet fine = record {
    text = text;
    more = p;
    made = made + 1;
    gave = gave_more quiet fine;
    calls = omega arith;
    within = within;
    over = over;
  }
