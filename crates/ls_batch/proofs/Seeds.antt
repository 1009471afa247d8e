-- A tally tells of each text what the rows of the single seeds tell.
use Rattle.std.proofs.Common.{◌≡◌, ◌∙◌, ◌+◌, ◌<◌, ℕ, zero, suc, min, List, [], ◌∷◌, ◌++◌, length, map, Some, None, refl}
use Rattle.std.proofs.Common.{sym, ap, arith, inl, inr}
use Rattle.std.specs.Prelude.{◌⊎◌, slice_get}
use Rattle.std.proofs.lemmas.Bool.{cases_order}
use Rattle.ls_checked.specs.CheckedProgram.{Program}
use Rattle.ls_report.specs.Events.{Text}
use Rattle.ls_report.specs.Printing.{run_text}
use Rattle.ls_report.proofs.CutLemmas.{none_is, some_is}
use Rattle.ls_batch.specs.Tallies as counted
use Rattle.ls_batch.specs.Tallies.{Elsewhere, Here, History, IsTally, Nowhere, Stands}
use Rattle.ls_tallies.specs.Tallies.{Row, row}
use Rattle.ls_tallies.proofs.Told.{both, Once, said, told}
use Rattle.ls_batch.specs.Merging.{AreToldApart, text_row}
use Rattle.ls_batch.proofs.Rows as rows
use Rattle.ls_batch.proofs.Rows.{found, get_map, got_map, its, not_its, once_apart, told_nothing, told_there}

-- a row for each seed
abbrev pub seed_rows : Program → ℕ → List History → List Row
seed_rows p first [] = []
seed_rows p first (h ∷ hs) = row (run_text p h) 1 first ∷ seed_rows p (first + 1) hs

-- the rows of the seeds of two ranges
pub seed_rows_append : (p : Program) (first : ℕ) (hs ms : List History)
    → seed_rows p first (hs ++ ms) ≡ seed_rows p first hs ++ seed_rows p (first + length hs) ms
seed_rows_append p first [] ms = let same : first ≡ first + 0 = omega arith in ap (λ n. seed_rows p n ms) same
seed_rows_append p first (h ∷ hs) ms =
    let same : (first + 1) + length hs ≡ first + suc (length hs) = omega arith in
    ap (λ l. row (run_text p h) 1 first ∷ l) (seed_rows_append p (first + 1) hs ms ∙
    ap (λ n. seed_rows p (first + 1) hs ++ seed_rows p n ms) same)

-- a text that no history has
pub seeds_nothing : (p : Program) (t : Text) (first : ℕ) (hs : List History)
    → ((k : ℕ) (h : History) → slice_get hs k ≡ Some h → run_text p h ≡ t → ⊥)
    → told t (seed_rows p first hs) ≡ None
seeds_nothing p t first [] lacks = refl
seeds_nothing p t first (h ∷ hs) lacks =
    ap (λ o. both o (told t (seed_rows p (first + 1) hs))) (not_its t (row (run_text p h) 1 first) (lacks 0 h refl))
    ∙ seeds_nothing p t (first + 1) hs (λ k. lacks (suc k))

module _ (p : Program) (g : History) where
  -- histories with the text of this one are this one
  abbrev IsAlone : List History → Type 0
  IsAlone hs = (k : ℕ) (h : History) → slice_get hs k ≡ Some h → run_text p h ≡ run_text p g → h ≡ g

  abbrev Absent : List History → Type 0
  Absent hs = (k : ℕ) → slice_get hs k ≡ Some g → ⊥

  -- the history is there, and it is told how many times, and where first
  record Told (hs : List History) (first n : ℕ) : Type 0 where
    at : ℕ
    there : slice_get hs at ≡ Some g
    least : (k : ℕ) → k < at → slice_get hs k ≡ Some g → ⊥
    tells : told (run_text p g) (seed_rows p first hs) ≡ said n (first + at)

  -- or it is nowhere, and nothing is told
  record Untold (hs : List History) (first n : ℕ) : Type 0 where
    none : n ≡ 0
    absent : Absent hs
    tells : told (run_text p g) (seed_rows p first hs) ≡ None

  here : (hs : List History) (first n : ℕ)
      → Told hs (first + 1) n ⊎ Untold hs (first + 1) n
      → Told (g ∷ hs) first (n + 1)
  here hs first n rest = record {
    at = 0;
    there = refl;
    least = λ k lt e. absurd (omega (arith, lt));
    tells = start ∙
        go rest;
  }
    where
      start : told (run_text p g) (seed_rows p first (g ∷ hs)) ≡ both (said 1 first)
          (told (run_text p g) (seed_rows p (first + 1) hs))
      start = ap (λ o. both o (told (run_text p g) (seed_rows p (first + 1) hs)))
          (its (run_text p g) (row (run_text p g) 1 first) refl)

      go : Told hs (first + 1) n ⊎ Untold hs (first + 1) n
          → both (said 1 first) (told (run_text p g) (seed_rows p (first + 1) hs)) ≡ said (n + 1) (first + 0)
      go (inl t) =
          let count : 1 + n ≡ n + 1 = omega arith in
          let seed : min first ((first + 1) + t.at) ≡ first + 0 = omega arith in
          ap (both (said 1 first)) t.tells ∙ (λ i. said (count i) (seed i))
      go (inr u) =
          let count : 1 ≡ n + 1 = omega (arith, u.none) in
          let seed : first ≡ first + 0 = omega arith in
          ap (both (said 1 first)) u.tells ∙ (λ i. said (count i) (seed i))

  elsewhere : (f : History) (hs : List History) (first n : ℕ)
      → (f ≡ g → ⊥)
      → IsAlone (f ∷ hs)
      → Told hs (first + 1) n ⊎ Untold hs (first + 1) n
      → Told (f ∷ hs) first n ⊎ Untold (f ∷ hs) first n
  elsewhere f hs first n other alone rest = go rest
    where
      start : told (run_text p g) (seed_rows p first (f ∷ hs)) ≡ told (run_text p g) (seed_rows p (first + 1) hs)
      start = ap (λ o. both o (told (run_text p g) (seed_rows p (first + 1) hs)))
          (not_its (run_text p g) (row (run_text p f) 1 first) (λ same. other (alone 0 f refl same)))

      least : (at : ℕ)
          → ((k : ℕ) → k < at → slice_get hs k ≡ Some g → ⊥)
          → (k : ℕ)
          → k < suc at
          → slice_get (f ∷ hs) k ≡ Some g
          → ⊥
      least at below zero lt e = other (some_is e)
      least at below (suc k) lt e = below k (omega (arith, lt)) e

      absent : Absent hs → Absent (f ∷ hs)
      absent lacks zero e = other (some_is e)
      absent lacks (suc k) e = lacks k e

      go : Told hs (first + 1) n ⊎ Untold hs (first + 1) n → Told (f ∷ hs) first n ⊎ Untold (f ∷ hs) first n
      go (inl t) =
          let seed : (first + 1) + t.at ≡ first + suc t.at = omega arith in
          inl (record {
            at = suc t.at;
            there = t.there;
            least = least t.at t.least;
            tells = start ∙ t.tells ∙
                ap (said n) seed;
          })
      go (inr u) = inr (record { none = u.none; absent = absent u.absent; tells = start ∙ u.tells })

  -- what the rows of the single seeds tell of the history's text
  by_seeds : (hs : List History) (first n : ℕ) → IsAlone hs → Stands g hs n → Told hs first n ⊎ Untold hs first n
  by_seeds hs first n alone Nowhere = inr (record { none = refl; absent = λ k e. none_is e; tells = refl })
  by_seeds hs first n alone (Here gs m s) = inl (here gs first m (by_seeds gs (first + 1) m (λ k. alone (suc k)) s))
  by_seeds hs first n alone (Elsewhere f gs m d s) = elsewhere f gs first m d alone
      (by_seeds gs (first + 1) m (λ k. alone (suc k)) s)

module _ (p : Program) (hs : List History) (first : ℕ) (tally : List counted.Row) (apart : AreToldApart p hs)
    (is : IsTally hs first tally) where
  abbrev texts : List Row
  texts = map (text_row p) tally

  -- each text is there once
  pub once_told : Once texts
  once_told = once_apart texts differ
    where
      differ : (j k : ℕ) (r s : Row)
          → j < k
          → slice_get texts j ≡ Some r
          → slice_get texts k ≡ Some s
          → r.history ≡ s.history
          → ⊥
      differ j k r s lt er es same =
          let x = got_map (text_row p) tally j r er in
          let y = got_map (text_row p) tally k s es in
          let a = is.tells j x.0 x.1 in
          let b = is.tells k y.0 y.1 in
          let text = ap (λ (z : Row). z.history) x.2 ∙ same ∙ sym (ap (λ (z : Row). z.history) y.2) in
          let one : x.0.history ≡ y.0.history = apart a.at b.at x.0.history y.0.history a.there b.there text in
          let rising : x.0.seed < y.0.seed = is.rising j k x.0 y.0 lt x.1 y.1 in
          b.least a.at (omega (arith, rising, a.seed, b.seed)) (a.there ∙ ap Some one)

  -- of each text the same is told as by the rows of the single seeds
  pub told_by_seeds : (t : Text) → told t texts ≡ told t (seed_rows p first hs)
  told_by_seeds t = go (found t texts)
    where
      no_seed : rows.Lacks t texts → (k : ℕ) (h : History) → slice_get hs k ≡ Some h → run_text p h ≡ t → ⊥
      no_seed lacks k h e same =
          let has = is.every k h e in
          lacks has.at (text_row p has.row) (get_map (text_row p) tally has.at has.row has.there)
          (ap (run_text p) has.same ∙ same)

      same_place : (r : counted.Row) (tells : counted.Tells hs first r) (s : Told p r.history hs first r.count)
          → first + s.at ≡ r.seed
      same_place r tells s = elim (cases_order s.at tells.at) [
        | inl same ↦ omega (arith, same, tells.seed)
        | inr (inl before) ↦ absurd (tells.least s.at before s.there)
        | inr (inr after) ↦ absurd (s.least tells.at after tells.there)
      ]

      told_first : (r : counted.Row)
          → counted.Tells hs first r
          → Told p r.history hs first r.count ⊎ Untold p r.history hs first r.count
          → told (run_text p r.history) (seed_rows p first hs) ≡ said r.count r.seed
      told_first r tells (inl s) = s.tells ∙ ap (said r.count) (same_place r tells s)
      told_first r tells (inr u) = absurd (u.absent tells.at tells.there)

      of_row : (r : counted.Row)
          → counted.Tells hs first r
          → told (run_text p r.history) (seed_rows p first hs) ≡ said r.count r.seed
      of_row r tells =
          told_first r tells (by_seeds p r.history hs first r.count
          (λ k h e same. apart k tells.at h r.history e tells.there same) tells.count)

      go : rows.Stands t texts ⊎ rows.Lacks t texts → told t texts ≡ told t (seed_rows p first hs)
      go (inl x) =
          let y = got_map (text_row p) tally x.at x.row x.there in
          let text : run_text p y.0.history ≡ t = ap (λ (z : Row). z.history) y.2 ∙ x.same in
          let count : x.row.count ≡ y.0.count = ap (λ (z : Row). z.count) (sym y.2) in
          let seed : x.row.seed ≡ y.0.seed = ap (λ (z : Row). z.seed) (sym y.2) in
          told_there t texts once_told x.at x.row x.there x.same ∙ (λ i. said (count i) (seed i))
          ∙ sym (of_row y.0 (is.tells x.at y.0 y.1)) ∙ ap (λ s. told s (seed_rows p first hs)) text
      go (inr lacks) = told_nothing t texts lacks ∙ sym (seeds_nothing p t first hs (no_seed lacks))
