-- A reader and a writer before and after a call: what is known of their bytes, and their counts.
use Rattle.std.specs.Prelude.{ℕ, List, Option}
use Rattle.peer_view.specs.declared.reader.PeerRead as Read
use Rattle.peer_view.specs.declared.writer.PeerWrite as Write

-- a reader before and after a call: the bytes that it gave, where it tells them, and its counts
pub record Reading : Type 0 where
  pub given : Option (List ℕ)
  pub given' : Option (List ℕ)
  pub calls : ℕ
  pub calls' : ℕ
  pub ends : ℕ
  pub ends' : ℕ
  pub failures : ℕ
  pub failures' : ℕ

-- a writer before and after a call: the bytes that it took, where it tells them, and its failures
pub record Writing : Type 0 where
  pub taken : Option (List ℕ)
  pub taken' : Option (List ℕ)
  pub failures : ℕ
  pub failures' : ℕ

abbrev pub reading : {R : Type 0} → Read.Ghosts R → R → R → Reading
reading G old new = record {
  given = G.given old;
  given' = G.given new;
  calls = G.calls old;
  calls' = G.calls new;
  ends = G.ends old;
  ends' = G.ends new;
  failures = G.failures old;
  failures' = G.failures new;
}

abbrev pub writing : {W : Type 0} → Write.Ghosts W → W → W → Writing
writing G old new = record { taken = G.taken old; taken' = G.taken new; failures = G.failures old; failures' = G.failures new }
