-- Walks along edges within a call, with one edge more.
use Rattle.std.proofs.Common.{◌≡◌, ℕ, ◌+◌, ◌≤◌, Bool, true, false, List, [], ◌∷◌, ◌++◌, refl, sym, ◌∙◌}
use Rattle.std.proofs.Common.{arith}
use Rattle.std.specs.Prelude.{◌||◌, if◌then◌else◌}
use Rattle.ls_graph.specs.Walks.{IsOne, Walks}
use Rattle.ls_graph.specs.declared.closing.Edge.{Edge}
use Rattle.ls_progress_laws.specs.Progress.{Kind}
use Rattle.ls_progress.specs.Cycles.{AreKept, IsAlong, own_in}
use Rattle.ls_progress.specs.Kinds.{is_kept, is_own}

pub along_none : (kind : Kind) (edges : List Edge) (at : ℕ) → IsAlong kind edges at at [] false
along_none kind edges at = record { walks = refl; kept = tt; some = λ e. absurd (cc) }

walks_more : (edges : List Edge) (path : List Edge) (from at : ℕ) (e : Edge) → Walks edges from path at →
    IsOne edges e →
    e.from ≡ at →
    Walks edges from (path ++ e ∷ []) e.to
walks_more edges [] from at e w one is = (one, is ∙ sym w, refl)
walks_more edges (f ∷ path) from at e w one is = (w.0, w.1, walks_more edges path f.to at e w.2 one is)

kept_more : (kind : Kind) (path : List Edge) (e : Edge) → AreKept kind path → is_kept kind e ≡ true →
    AreKept kind (path ++ e ∷ [])
kept_more kind [] e kept is = (is, tt)
kept_more kind (f ∷ path) e kept is = (kept.0, kept_more kind path e kept.1 is)

own_more : (t : ℕ) (path : List Edge) (e : Edge) →
    own_in t (path ++ e ∷ []) ≡ own_in t path + (if is_own t e then 1 else 0)
own_more t [] e = omega arith
own_more t (f ∷ path) e =
    let more = own_more t path e in
    omega (arith, more)

one_own : (b : Bool) → b ≡ true → 1 ≤ (if b then 1 else 0)
one_own true e = omega arith
one_own false e = absurd (cc)

pub along_more : (kind : Kind) (edges : List Edge) (from at : ℕ) (path : List Edge) (own : Bool) (e : Edge) →
    IsAlong kind edges from at path own →
    IsOne edges e →
    e.from ≡ at →
    is_kept kind e ≡ true →
    IsAlong kind edges from e.to (path ++ e ∷ []) (own || is_own kind.thread e)
along_more kind edges from at path own e a one is kept = record {
  walks = walks_more edges path from at e a.walks one is;
  kept = kept_more kind path e a.kept kept;
  some = λ on. some_more own (is_own kind.thread e) refl a.some on;
}
  where
    some_more : (b o : Bool) → is_own kind.thread e ≡ o → (b ≡ true → 1 ≤ own_in kind.thread path) →
        (b || o) ≡ true →
        1 ≤ own_in kind.thread (path ++ e ∷ [])
    some_more true o is had on =
        let sum = own_more kind.thread path e in
        let some = had refl in
        omega (arith, sum, some)
    some_more false true is had on =
        let sum = own_more kind.thread path e in
        let one = one_own (is_own kind.thread e) is in
        omega (arith, sum, one)
    some_more false false is had on = absurd (cc)
