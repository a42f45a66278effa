-- Two programs that are equal wherever they have a number: no run and no verdict tells them apart (proofs: Same, SameRules).
use Rattle.std.specs.Prelude.{ℕ, ◌+◌, ◌<◌, ◌≤◌, ◌≡◌}
use Rattle.model.specs.Program.{Program, Record}
use Rattle.model.specs.Refusal.{Reason, Verdict, Accepted, Refused}

-- equal wherever g has a number; QT records are left out, for a variable is declared by a tree and not by its number
pub record Same (g h : Program) : Type 0 where
  pub types : g.types ≡ h.types
  pub named : (t : ℕ) → 2 ≤ t → t < 2 + g.types → g.named t ≡ h.named t
  pub slots : (t : ℕ) → 2 ≤ t → t < 2 + g.types → g.slots t ≡ h.slots t
  pub slot : (t k : ℕ) → 2 ≤ t → t < 2 + g.types → k < g.slots t → g.slot t k ≡ h.slot t k
  pub procedures : g.procedures ≡ h.procedures
  pub owner : (p : ℕ) → p < g.procedures → g.owner p ≡ h.owner p
  pub formals : (p : ℕ) → p < g.procedures → g.formals p ≡ h.formals p
  pub variables : (p : ℕ) → p < g.procedures → g.variables p ≡ h.variables p
  pub bound : (p : ℕ) → p < g.procedures → g.bound p ≡ h.bound p
  pub result : (p : ℕ) → p < g.procedures → g.result p ≡ h.result p
  pub inner : (p x : ℕ) → p < g.procedures → x < g.variables p → g.inner p x ≡ h.inner p x
  pub need : (p x : ℕ) → p < g.procedures → x < g.formals p → g.need p x ≡ h.need p x
  pub instructions : (p : ℕ) → p < g.procedures → g.instructions p ≡ h.instructions p
  pub operation : (p i : ℕ) → p < g.procedures → i < g.instructions p → g.operation p i ≡ h.operation p i

-- the QT records, which only their own rule reads
pub record SameQuals (g h : Program) : Type 0 where
  pub quals : g.quals ≡ h.quals
  pub qual : (j : ℕ) → j < g.quals → g.qual j ≡ h.qual j

-- the same verdict but for the place: refused for the same reason for the same record, wherever it starts
pub data Alike (at at' : Record → ℕ) : Verdict → Verdict → Type 0 where
  both_accepted : Alike at at' Accepted Accepted
  at_record : (n : Reason) (r : Record) → Alike at at' (Refused n (at r)) (Refused n (at' r))
