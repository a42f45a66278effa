-- Any step of the watched machine, a line a code.
use Prim.Native.Nat.{ℕ, pred}
use mathlib.Core.Path.{◌≡◌, ap}
use mathlib.Core.Bool.{Bool, true, false, false≢true}
use mathlib.Core.List.{List, [], ◌∷◌}
use lib.ListN.{replicate}
use Rattle.model.specs.Rights.{Rights}
use Rattle.model.specs.Program.{Program}
use Rattle.model.specs.Rules.{optional}
use Rattle.model.specs.declared.Operation.{Operation}
use Rattle.model.specs.declared.Operation.TheVariants.{Return}
use Rattle.model.specs.Modes.{watched}
use Rattle.model.specs.Machine.{Value, empty, Object, array_of, record_of, Frame, frame, State, state, View, view, Effect, kept, Next, go, finished, apply}
use Rattle.model.specs.Run.{Snapshot, snapshot, shot, finished-shot}
use Rattle.provenance.specs.Location.{Location, variable, cell, variables-at, content}
use Rattle.provenance.specs.Origin.{closed-frame, closed-by, origin}
use Rattle.provenance.specs.Chain.{depth-of}
use Rattle.provenance.specs.Claim.{Carries}
use Rattle.model.proofs.Planned.{Planned, sets, adds, subtracts, compares, jumps, skips, binds, takes, puts, new-arrays, fetches, stores, sizes, new-records, gets-slot, sets-slot, calls, finishes, returns}
use Rattle.provenance.proofs.Locations.{blank-carries, blank-row}
use Rattle.provenance.proofs.Links.{Says, still-says, s, v, given-says, made-says, bind-says, fetch-says, get-says, store-says, set_says}
use Rattle.provenance.proofs.Calls.{call-says, resume-says}

abbrev pub left_after : State watched → Next watched → Snapshot watched
left_after s (go t) = shot t
left_after s finished = finished-shot s

-- main's frame is given back: cells are left
pub finish-says :
    (g : Program) (v : View watched) (d : ℕ) (f : Frame watched) (os : List (Object watched)) (t : Snapshot watched) (x : Value) (i : ℕ) (m : Location) →
    Carries x i (content (snapshot [] os) m) → Says g (snapshot (f ∷ []) os) t x i m (closed-frame g v d m)
unfolding closed-frame content variables-at
finish-says g v d f os t x i (variable e y) h = blank-carries h
finish-says g v d f os t x i (cell a k) h = h

pub apply-says :
    (g : Program) (memory output : ℕ) (s : State watched) {op : Operation} {e : Effect watched} → Planned watched g (view memory output s) op e →
    (x : Value) (i : ℕ) (m : Location) → Carries x i (content (left_after s (apply g s e)) m) →
    Says g (shot s) (left_after s (apply g s e)) x i m (origin g (view memory output s) (depth-of s) op m)
unfolding apply origin closed-by
apply-says g mem wide (state (frame p n z vs) fs os input out) (sets {a} {d} h) x i = given-says g mem wide p n z vs fs os input out x i a d h
apply-says g mem wide (state (frame p n z vs) fs os input out) (adds {a} {d} h) x i = given-says g mem wide p n z vs fs os input out x i a d h
apply-says g mem wide (state (frame p n z vs) fs os input out) (subtracts {a} {d} h) x i = given-says g mem wide p n z vs fs os input out x i a d h
apply-says g mem wide (state (frame p n z vs) fs os input out) (compares {a} {d} h) x i = given-says g mem wide p n z vs fs os input out x i a d h
apply-says g mem wide (state (frame p n z vs) fs os input out) jumps x i = still-says g p n _ z vs fs os x i
apply-says g mem wide (state (frame p n z vs) fs os input out) skips x i = still-says g p n _ z vs fs os x i
apply-says g mem wide (state (frame p n z vs) fs os input out) (binds {a} {b} {d} h) x i = bind-says g mem wide p n z vs fs os input out x i a b d h
apply-says g mem wide (state (frame p n z vs) fs os input out) (takes {a} {d} h) x i = given-says g mem wide p n z vs fs os input out x i a d h
apply-says g mem wide (state (frame p n z vs) fs os input out) (puts r) x i = still-says g p n _ z vs fs os x i
apply-says g mem wide (state (frame p n z vs) fs os input out) (new-arrays {a} {n = c} {e} {r} h) x i =
    made-says g mem wide p n z vs fs os input out x i a r (array_of e (replicate c empty)) _ (blank-row c) h
apply-says g mem wide (state (frame p n z vs) fs os input out) (fetches {a} {b} {c} {d} h) x i = fetch-says g mem wide p n z vs fs os input out x i a b c d h
apply-says g mem wide (state (frame p n z vs) fs os input out) (stores {a} {b} {c} {o} {i = j} {d} h) x i = store-says g mem wide p n z vs fs os input out x i a b c o j d h
apply-says g mem wide (state (frame p n z vs) fs os input out) (sizes {a} {d} h) x i = given-says g mem wide p n z vs fs os input out x i a d h
apply-says g mem wide (state (frame p n z vs) fs os input out) (new-records {a} {n = c} t {r} h) x i =
    made-says g mem wide p n z vs fs os input out x i a r (record_of t (replicate c empty)) _ (blank-row c) h
apply-says g mem wide (state (frame p n z vs) fs os input out) (gets-slot {a} {b} {k} {d} h) x i = get-says g mem wide p n z vs fs os input out x i a b k d h
apply-says g mem wide (state (frame p n z vs) fs os input out) (sets-slot {a} {b} {k} {o} {d} h) x i = set_says g mem wide p n z vs fs os input out x i a b k o d h
apply-says g mem wide (state (frame p n z vs) fs os input out) (calls {a} {b} {k} {cs} w h) x i =
    rw w.settles (call-says g mem wide p n z vs fs os input out x i a b k cs (rw w.settles at h))
apply-says g mem wide (state (frame p n z vs) [] os input out) (finishes e) x i = λ m. finish-says g _ 0 (frame p n z vs) os (snapshot [] os) x i m
apply-says g mem wide (state (frame p n z vs) (frame o k r us ∷ fs) os input out) (finishes e) x i = let t : ◌≡◌ {A = Bool} false true = cc in absurd (false≢true t)
apply-says g mem wide (state (frame p n z vs) [] os input out) (returns q j y e h) x i = let t : ◌≡◌ {A = Bool} false true = cc in absurd (false≢true t)
apply-says g mem wide (state (frame p n z vs) (frame o k r us ∷ fs) os input out) {op = Return a} (returns q j y {w} e h) x i =
    let f : ◌≡◌ {A = ℕ × ℕ × Rights} (q, j, y) (o, k, r) = cc in
    let b : q ≡ o = ap (λ (t : ℕ × ℕ × Rights). t.0) f in
    let c : j ≡ k = ap (λ (t : ℕ × ℕ × Rights). t.1) f in
    let d : y ≡ r = ap (λ (t : ℕ × ℕ × Rights). t.2) f in
    resume-says g mem wide p n o k z r vs us fs os input out x i (kept (g.operation o (pred k))) (optional a) w (rw (b, c, d) at h)
