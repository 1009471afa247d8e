-- A call that ends alone ends so whatever more steps its thread makes, if nothing more comes.
use Rattle.std.proofs.Common.{◌≡◌, ◌⊎◌, inl, inr, ℕ, zero, suc, ◌+◌, ◌-◌, ◌<◌, ◌≤◌, List, [], ◌∷◌, ◌++◌, length}
use Rattle.std.proofs.Common.{sym, ap, ◌∙◌, subst, arith, append-nil, append_assoc}
use Rattle.std.proofs.lemmas.Bool.{cases_lt}
use Rattle.ls_events.specs.declared.event.Event.{Event}
use Rattle.ls_checked.specs.CheckedTree.{File}
use Rattle.ls_checked.specs.CheckedProgram.{Program}
use Rattle.ls_meaning.specs.declared.step.Did.{Did}
use Rattle.ls_meaning.specs.declared.step.Did.TheVariants as did
use Rattle.ls_meaning.specs.Still.{IsActing, IsStill}
use Rattle.ls_meaning.specs.Runs.{source_history, source_run, step}
use Rattle.ls_serial.specs.Serial.{IsCall, IsEndOf, IsSerial}
use Rattle.ls_serial_search.specs.Following.{NeverEnds, called, events_of}
use Rattle.ls_serial_search.specs.Open.{HasEnded}
use Rattle.ls_serial_search.proofs.Answering.{between_acts}
use Rattle.ls_serial_search.proofs.Between.{all_between}
use Rattle.ls_serial_search.proofs.SoFar.{serial_more}
use Rattle.ls_serial_search.proofs.Stalls.{after, at_first, history_kept, history_next, no_shorter, one_longer}
use Rattle.ls_serial_search.proofs.Stalls.{state_kept}
use Rattle.ls_serial_search.proofs.Stepping.{acts_within}
use Rattle.std.proofs.lemmas.List.{length-append}

pub still_or_acts : (d : Did) → IsStill d ⊎ IsActing d
still_or_acts (did.Acted a x) = inr tt
still_or_acts did.Waits = inl tt
still_or_acts did.Idle = inl tt

pub cancel : {A : Type 0} (h xs ys : List A) → h ++ xs ≡ h ++ ys → xs ≡ ys
cancel [] xs ys is = is
cancel (x ∷ h) xs ys is = cancel h xs ys (cc)

-- two events, and then more or none
same_two : (c e c' e' : Event) (more : List Event) → c ∷ e ∷ more ≡ c' ∷ e' ∷ [] → (c ≡ c') × (e ≡ e') × (more ≡ [])
same_two c e c' e' more is = (cc, cc, cc)

module _ (file : File) (program : Program) (x : List ℕ) (t : ℕ) where
  abbrev h : ℕ → List Event
  h j = source_history file program (after file program x t j)

  abbrev at : ℕ → List ℕ
  at j = after file program x t j

  -- where all threads are between their calls, and nothing more comes, nothing changes
  settled : (a k : ℕ) → IsSerial (h a) → h (k + a) ≡ h a →
      source_run file program (at (k + a)) ≡ source_run file program (at a)
  settled a zero serial same = let e : 0 + a ≡ a = omega arith in ap (λ n. source_run file program (at n)) e
  settled a (suc k) serial same =
      by_did (still_or_acts (step file program (source_run file program (at a)) t).did)
    where
      by_did : IsStill (step file program (source_run file program (at a)) t).did
          ⊎ IsActing (step file program (source_run file program (at a)) t).did →
          source_run file program (at (suc k + a)) ≡ source_run file program (at a)
      by_did (inl still) = state_kept file program x t a (suc k) still
      by_did (inr acts) =
          let begins = between_acts file program (source_run file program (at a)) t
          (all_between file program (at a) serial t) acts in
          let e : k + suc a ≡ suc k + a = omega arith in
          absurd (omega (
            arith,
            ap length (history_next file program x t a ∙ ap (λ l. h a ++ l) begins.1),
            one_longer file program x t (h a) (called t begins.0),
            no_shorter file program x t (suc a) k,
            ap (λ n. length (h n)) e,
            ap length same,
          ))

  -- more steps add events
  longer : (a k : ℕ) → (more : List Event) × (h (k + a) ≡ h a ++ more)
  longer a zero = let e : 0 + a ≡ a = omega arith in ([], ap h e ∙ sym (append-nil (h a)))
  longer a (suc k) =
      let e : suc k + a ≡ suc (k + a) = omega arith in
      let m = longer a k in
      let es = events_of t (step file program (source_run file program (at (k + a))) t).did in
      (m.0 ++ es, ap h e ∙ history_next file program x t (k + a) ∙ ap (λ l. l ++ es) m.1 ∙ append_assoc (h a) m.0 es)

  -- the same call, with the same end and the same state after it
  pub record IsSame (a b : ℕ) (c e c' e' : Event) : Type 0 where
    pub call : c ≡ c'
    pub end : e ≡ e'
    pub state : source_run file program (at a) ≡ source_run file program (at b)

  module _ (g : List Event) (serial : IsSerial g) (c e c' e' : Event) (call : IsCall c) (end : IsEndOf c e)
      (call' : IsCall c') (end' : IsEndOf c' e') where
    one_way : (a k : ℕ) → h a ≡ g ++ c ∷ e ∷ [] → h (k + a) ≡ g ++ c' ∷ e' ∷ [] → IsSame (k + a) a c e c' e'
    one_way a k one two =
        let m = longer a k in
        let same = same_two c e c' e' m.0 (cancel g (c ∷ e ∷ m.0) (c' ∷ e' ∷ [])
        (sym (append_assoc g (c ∷ e ∷ []) m.0) ∙ ap (λ l. l ++ m.0) (sym one) ∙ sym m.1 ∙ two)) in
        record {
          call = same.0;
          end = same.1;
          state = settled a k (subst IsSerial (append_assoc g (c ∷ []) (e ∷ []) ∙ sym one)
              (serial_more g c e serial call end))
              (m.1 ∙ ap (λ l. h a ++ l) same.2 ∙ append-nil (h a));
        }

  pub one_end : (g : List Event) → IsSerial g → (c e c' e' : Event) → IsCall c → IsEndOf c e → IsCall c' →
      IsEndOf c' e' → (a b : ℕ) → h a ≡ g ++ c ∷ e ∷ [] → h b ≡ g ++ c' ∷ e' ∷ [] → IsSame a b c e c' e'
  one_end g serial c e c' e' call end call' end' a b one two = by_order (cases_lt a b)
    where
      by_order : (a < b) ⊎ (b ≤ a) → IsSame a b c e c' e'
      by_order (inl less) =
          let k : b ≡ (b - a) + a = omega (arith, less) in
          let r = one_way g serial c e c' e' call end call' end' a (b - a) one (sym (ap h k) ∙ two) in
          record { call = r.call; end = r.end; state = sym (ap (λ n. source_run file program (at n)) k ∙ r.state) }
      by_order (inr past) =
          let k : a ≡ (a - b) + b = omega (arith, past) in
          let r = one_way g serial c' e' c e call' end' call end b (a - b) two (sym (ap h k) ∙ one) in
          record { call = sym r.call; end = sym r.end; state = ap (λ n. source_run file program (at n)) k ∙ r.state }

  -- a call that ends adds two events
  two_more : (n : ℕ) → HasEnded file program x t n → length (h n) ≡ length (source_history file program x) + 2
  two_more n ended = ap length ended.is
      ∙ length-append (source_history file program x) (called t ended.call ∷ ended.end ∷ [])

  -- it isn't of a thread that doesn't act
  pub still_ends_none : IsStill (step file program (source_run file program (at 0)) t).did → (n : ℕ) →
      HasEnded file program x t n → ⊥
  still_ends_none still n ended =
      let e : n + 0 ≡ n = omega arith in
      absurd (omega (
        arith,
        ap length (sym (ap h e) ∙ history_kept file program x t 0 n still ∙ at_first file program x t),
        two_more n ended,
      ))

  -- it isn't one that never ends
  pub never_ends_none : (call : ℕ) → NeverEnds file program x t call → (n : ℕ) → HasEnded file program x t n → ⊥
  never_ends_none call never zero ended =
      absurd (omega (arith, two_more 0 ended, ap length (at_first file program x t)))
  never_ends_none call never (suc j) ended =
      let e : suc j ≡ j + 1 = omega arith in
      absurd (omega (
        arith,
        two_more (suc j) ended,
        ap length (ap h e ∙ (never (suc j)).is j (omega arith)),
        one_longer file program x t (source_history file program x) (called t call),
      ))

  -- its thread is there
  pub ended_within : (n : ℕ) → HasEnded file program x t n → t < length program.threads
  ended_within n ended = by_did (still_or_acts (step file program (source_run file program (at 0)) t).did)
    where
      by_did : IsStill (step file program (source_run file program (at 0)) t).did
          ⊎ IsActing (step file program (source_run file program (at 0)) t).did → t < length program.threads
      by_did (inl still) = absurd (still_ends_none still n ended)
      by_did (inr acts) = acts_within file program (source_run file program (at 0)) t acts
