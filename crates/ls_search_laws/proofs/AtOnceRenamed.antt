-- Steps at once are taken under other names too.
use Rattle.std.proofs.Common.{◌≡◌, ℕ, Bool, true, false, List, [], ◌∷◌, refl, ap, ◌∙◌, subst}
use Rattle.std.specs.Prelude.{if◌then◌else◌, nat_eq}
use Rattle.ls_events.specs.declared.value.Value.{Value}
use Rattle.ls_events.specs.declared.action.Action.{Action}
use Rattle.ls_events.specs.declared.action.Answer.{Answer}
use Rattle.ls_checked.specs.CheckedTree.{File}
use Rattle.ls_meaning.specs.Course.{Answers}
use Rattle.ls_meaning.specs.Effect.{Does, effect}
use Rattle.ls_meaning.specs.Threads.{Next, Goes, Ended, Trapped}
use Rattle.ls_meaning.specs.Renamings.{IsRenaming, renamed_action, renamed_answer, renamed_answers, renamed_next}
use Rattle.ls_meaning.specs.Runs.{has_ended}
use Rattle.ls_search_laws.specs.AtOnce.{Choice, IsReading}
use Rattle.ls_search_laws.specs.Renaming.{IsRenamedEffect}
use Rattle.ls_search_laws.specs.Configuration.{Configuration, IsRenamed}
use Rattle.ls_search_laws.proofs.Reading.{reading_store}
use Rattle.ls_search_laws.proofs.Renaming.{effect_renames}
use Rattle.ls_search_laws.proofs.Strides.{told}
use Rattle.ls_search_laws.proofs.AtOnce.{Quick, Runs}

module _ (quiet : Choice) (file : File) (setup : (a : Action Value) (x : Answer Value) → quiet 0 a x ≡ false)
    (reading : (t : ℕ) (a : Action Value) (x : Answer Value) → quiet t a x ≡ true → IsReading a) where
  module _ (names : ℕ → ℕ) (is : IsRenaming names)
      (chosen : (t : ℕ) (a : Action Value) (x : Answer Value) → quiet t a x ≡ true →
      quiet t (renamed_action names a) (renamed_answer names x) ≡ true) where
    ended_same : (n : Next) → has_ended (renamed_next names n) ≡ has_ended n
    ended_same (Goes a sort) = refl
    ended_same Ended = refl
    ended_same Trapped = refl

    abbrev quick_renamed : (s s' : Configuration) (t : ℕ) → IsRenamed names s s' → Quick quiet file setup reading s t →
        Quick quiet file setup reading s' t
    quick_renamed s s' t r k =
        let same = subst (λ z. IsRenamedEffect names z (effect file.classes s'.store t (renamed_action names k.action)))
        k.does (effect_renames file.classes names is s.store s'.store r.store t k.action) in
        record {
          starts =
              ap (λ b. if nat_eq t 0 then true else b)
              (ap has_ended (r.continues 0 []) ∙ ended_same (s.continues 0 [])) ∙ k.starts;
          action = renamed_action names k.action;
          sort = k.sort;
          goes = r.continues t [] ∙ ap (renamed_next names) k.goes;
          answer = renamed_answer names k.answer;
          does =
              same.1 ∙ ap (λ z. Does z (renamed_answer names k.answer))
              (reading_store file.classes s'.store same.0 t (renamed_action names k.action)
              (renamed_answer names k.answer)
              (reading t (renamed_action names k.action) (renamed_answer names k.answer)
              (chosen t k.action k.answer k.chosen)) same.1);
          chosen = chosen t k.action k.answer k.chosen;
        }

    answer_same : (s s' : Configuration) (t : ℕ) (x : Answer Value) →
        IsRenamed names s s' →
        (u : ℕ) (later : Answers) (b : Bool) →
        (if b then s'.continues t (renamed_answer names x ∷ renamed_answers names later) else
        s'.continues u (renamed_answers names later)) ≡
        renamed_next names (if b then s.continues t (x ∷ later) else s.continues u later)
    answer_same s s' t x r u later true = r.continues t (x ∷ later)
    answer_same s s' t x r u later false = r.continues u later

    -- steps at once are taken under other names too
    pub record RunsToo (s' : Configuration) (ts : List ℕ) (last : Configuration) : Type 0 where
      pub last' : Configuration
      pub runs : Runs quiet file setup reading s' ts last'
      pub same : IsRenamed names last last'

    pub runs_renamed : (ts : List ℕ) (s s' last : Configuration) →
        IsRenamed names s s' →
        Runs quiet file setup reading s ts last →
        RunsToo s' ts last
    runs_renamed [] s s' last r q = record {
      last' = s';
      runs = refl;
      same = subst (λ z. IsRenamed names z s') q r;
    }
    runs_renamed (t ∷ ts) s s' last r q =
        let k = quick_renamed s s' t r q.0 in
        let more = runs_renamed ts (told s t s.store q.0.answer) (told s' t s'.store (renamed_answer names q.0.answer))
        last (record {
          store = r.store;
          continues = λ u later. answer_same s s' t q.0.answer r u later (nat_eq u t);
        }) q.1 in
        record { last' = more.last'; runs = (k, more.runs); same = more.same }
