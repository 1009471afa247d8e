-- Serial runs that are collected.
use Rattle.std.proofs.Common.{◌≡◌, ◌⊎◌, ◌↔◌, inl, inr, ℕ, ◌+◌, ◌<◌, ◌≤◌, List, [], ◌∷◌, ◌++◌, Contains, length}
use Rattle.std.proofs.Common.{slice_index_or, take, drop, sym, ap, ◌∙◌, subst, arith, length-take}
use Rattle.std.proofs.Common.{append_assoc, length-append, take-take, Bool, true, false, Option, None, Some}
use Rattle.std.specs.Option.{IfNone, is_some}
use Rattle.std.proofs.Math.Seq.{take-append_seam}
use Rattle.std.proofs.lemmas.List.{take-append-drop}
use Rattle.std.proofs.lemmas.Bool.{cases_lt}
use Rattle.std.proofs.lemmas.List.Elements.{Contains-append_left, Contains-push, Contains-push_cases}
use Rattle.ls_events.specs.declared.event.Event.{Event}
use Rattle.ls_serial.specs.Serial.{ExplainsAmong, ExplainsFrom, HaveBeginning, IsCall}
use Rattle.ls_events.specs.Beginnings.{IsBeginning}
use Rattle.ls_serial.specs.Serial.{IsEndOf, IsExplained, IsExplainedBy, IsSerial}
use Rattle.ls_serial.specs.Walks.{IsExplainedAt}
use Rattle.ls_serial.proofs.Lists.{contains_get, get_contains, get_is, get_within, is_get}
use Rattle.ls_serial.proofs.Steps.{Pair, pair_at}

-- ---- how many events are serial

pub pair_from : (run : List Event) (n : ℕ) (d e : Event) →
    n + 1 < length run →
    IsCall (slice_index_or run n d) →
    IsEndOf (slice_index_or run n d) (slice_index_or run (n + 1) e) →
    Pair run n
pair_from run n d e lt call end = record {
  call = slice_index_or run n d;
  end = slice_index_or run (n + 1) e;
  first = is_get run n d (omega arith);
  second = is_get run (n + 1) e lt;
  is_call = call;
  is_end = end;
}

pub from_pair : (run : List Event) (n : ℕ) (d e : Event) →
    Pair run n →
    IsCall (slice_index_or run n d) × IsEndOf (slice_index_or run n d) (slice_index_or run (n + 1) e)
from_pair run n d e p =
    let first : p.call ≡ slice_index_or run n d = sym (get_is run n p.call d p.first) in
    let second : p.end ≡ slice_index_or run (n + 1) e = sym (get_is run (n + 1) p.end e p.second) in (
      subst IsCall first p.is_call,
      subst (IsEndOf (slice_index_or run n d)) second
          (subst (λ c. IsEndOf c p.end) first p.is_end),
    )

-- if there is no pair next, no longer beginning is serial
pub no_longer : (run : List Event) (n k : ℕ) →
    IsSerial (take n run) →
    (Pair run n → n + 1 < length run → ⊥) →
    k ≤ length run →
    IsSerial (take k run) →
    k ≤ n
no_longer run n k serial none within long = by_place (cases_lt n k)
  where
    by_place : (n < k) ⊎ (k ≤ n) → k ≤ n
    by_place (inr le) = le
    by_place (inl less) =
        let r = pair_at run n k serial long (omega (arith, length-take k run)) in
        absurd (none r.0 (omega (arith, r.1)))

-- ---- beginnings

pub beginning_of : (first middle run : List Event) → IsBeginning first middle → IsBeginning middle run →
    IsBeginning first run
beginning_of first middle run b more = (
  b.0 ++ more.0,
  sym (append_assoc first b.0 more.0) ∙ ap (λ xs. xs ++ more.0) b.1 ∙ more.1,
)

pub take_begins : (n : ℕ) (run : List Event) → IsBeginning (take n run) run
take_begins n run = (drop n run, take-append-drop n run)

-- a serial beginning is one of the longest
pub within_first : (run g : List Event) (n : ℕ) →
    ((k : ℕ) → k ≤ length run → IsSerial (take k run) → k ≤ n) →
    IsSerial g →
    IsBeginning g run →
    IsBeginning g (take n run)
within_first run g n most serial begins = (
  drop (length g) (take n run),
  ap (λ xs. xs ++ drop (length g) (take n run)) (sym shorter) ∙ take-append-drop (length g) (take n run),
)
  where
    same : take (length g) run ≡ g
    same = ap (take (length g)) (sym begins.1) ∙ take-append_seam g begins.0

    within : length g ≤ length run
    within = omega (arith, length-append g begins.0, ap length begins.1)

    shorter : take (length g) (take n run) ≡ g
    shorter = take-take (length g) n run (most (length g) within (subst IsSerial (sym same) serial)) ∙ same

-- ---- runs with one more

-- the run that the history begins with is among them, or a longer one
pub added_none : (runs : List (List Event)) (history g : List Event) (n : ℕ) →
    ((k : ℕ) → k ≤ length history → IsSerial (take k history) → k ≤ n) →
    HaveBeginning runs (take n history) →
    IsSerial g →
    HaveBeginning runs g ↔ (HaveBeginning runs g ⊎ IsBeginning g history)
added_none runs history g n most has serial = (λ b. inl b, by_which)
  where
    by_which : HaveBeginning runs g ⊎ IsBeginning g history → HaveBeginning runs g
    by_which (inl b) = b
    by_which (inr b) = record {
      run = has.run;
      there = has.there;
      begins = beginning_of g (take n history) has.run (within_first history g n most serial b) has.begins;
    }

-- it is added
pub added_one : (runs more : List (List Event)) (history g : List Event) (n : ℕ) →
    ((k : ℕ) → k ≤ length history → IsSerial (take k history) → k ≤ n) →
    more ≡ runs ++ take n history ∷ [] →
    IsSerial g →
    HaveBeginning more g ↔ (HaveBeginning runs g ⊎ IsBeginning g history)
added_one runs more history g n most is serial = (to, from)
  where
    to : HaveBeginning more g → HaveBeginning runs g ⊎ IsBeginning g history
    to b = by_place (Contains-push_cases runs (take n history) b.run (subst (λ rs. Contains rs b.run) is b.there))
      where
        by_place : Contains runs b.run ⊎ (take n history ≡ b.run) → HaveBeginning runs g ⊎ IsBeginning g history
        by_place (inl there) = inl (record { run = b.run; there = there; begins = b.begins })
        by_place (inr same) = inr (beginning_of g (take n history) history (subst (IsBeginning g) (sym same) b.begins)
            (take_begins n history))

    from : HaveBeginning runs g ⊎ IsBeginning g history → HaveBeginning more g
    from (inl b) = record {
      run = b.run;
      there = subst (λ rs. Contains rs b.run) (sym is) (Contains-append_left runs (take n history ∷ []) b.run b.there);
      begins = b.begins;
    }
    from (inr b) = record {
      run = take n history;
      there = subst (λ rs. Contains rs (take n history)) (sym is) (Contains-push runs (take n history));
      begins = within_first history g n most serial b;
    }

-- ---- what runs explain

-- what one of the runs explains from its beginning, they explain
pub among : (runs : List (List Event)) (i : ℕ) (d g h : List Event) →
    i < length runs →
    ExplainsFrom (slice_index_or runs i d) g h →
    ExplainsAmong runs g h
among runs i d g h lt e = record {
  begun = record {
    run = slice_index_or runs i d;
    there = get_contains runs i (slice_index_or runs i d) (is_get runs i d lt);
    begins = e.begins;
  };
  serial = e.serial;
  explains = e.explains;
}

-- where none of them does, they explain nothing
pub none_among : (runs : List (List Event)) (d h : List Event) →
    ((k : ℕ) → k < length runs → IsExplained (slice_index_or runs k d) h → ⊥) →
    IsExplainedBy runs h →
    ⊥
none_among runs d h none e =
    let at = contains_get runs e.1.begun.run e.1.begun.there in
    none at.0 (get_within runs at.0 e.1.begun.run at.1)
    (subst (λ run. IsExplained run h) (sym (get_is runs at.0 e.1.begun.run d at.1)) (
      e.0,
      record { begins = e.1.begun.begins; serial = e.1.serial; explains = e.1.explains },
    ))

-- a beginning by how long it is
pub from_count : (run h : List Event) (n : ℕ) → IsExplainedAt run h n → ExplainsFrom run (take n run) h
from_count run h n e = record {
  begins = (drop n run, take-append-drop n run);
  serial = e.serial;
  explains = e.explains;
}

-- what holds where nothing is found
pub none_there : {A : Type 0} (found : Option A) (b : Bool) (P : Type 0) →
    b ≡ is_some found →
    b ≡ false →
    IfNone found P →
    P
none_there None b P is none here = here
none_there (Some x) b P is none here = absurd (not_true (sym is ∙ none))
  where
    not_true : true ≡ false → ⊥
    not_true h = cc
