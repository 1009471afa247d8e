-- The first call that a class text lacks of its reference.
use Rattle.std.proofs.Common.{◌≡◌, ◌<◌, ◌⊎◌, inl, inr, ℕ, zero, suc, [], Some, arith, refl, subst}
use Rattle.std.specs.Prelude.{slice_get}
use Rattle.ls_class_programs.specs.declared.choosing.Choosing.{Choosing}
use Rattle.ls_family_search.specs.Judged.{Programs, calls_of, making_of}
use Rattle.ls_faults.specs.declared.fault.ToolFault.{ToolFault}
use Rattle.ls_faults.specs.declared.fault.ToolFault.TheVariants as faults
use Rattle.ls_report.specs.Events.{Text}
use Rattle.ls_find_commands.specs.Lacking.{HasCall, IsFirstFault, LacksNone, LacksOrIsNone, asked_calls}

same_text : (a b : Text) → Some a ≡ Some b → a ≡ b
same_text a b e = cc

module _ (o : Choosing) (reference classes : Text) (p : Programs) where
  abbrev Has : Text → Type 0
  Has call = HasCall reference classes (making_of p) call

  abbrev Fault : ToolFault → Type 0
  Fault f = (f ≡ faults.Memory) ⊎ IsFirstFault o reference classes p f

  -- the making is had, and each call
  pub none_lacks : Has [] → ((k : ℕ) (call : Text) → slice_get (calls_of p) k ≡ Some call → Has call) →
      LacksNone reference classes p
  none_lacks making each zero call at = subst Has (same_text [] call at) making
  none_lacks making each (suc k) call at = each k call at

  -- the making is lacking
  pub making_lacks : (f : ToolFault) →
      (f ≡ faults.Memory) ⊎ LacksOrIsNone o reference classes (making_of p) [] f →
      Fault f
  making_lacks f (inl is) = inl is
  making_lacks f (inr bad) = inr (record {
    call = [];
    place = 0;
    here = refl;
    before = λ k other less. absurd (omega (arith, less));
    fault = bad;
  })

  had : Has [] → (i : ℕ) → ((k : ℕ) → k < i → (y : Text) → slice_get (calls_of p) k ≡ Some y → Has y) →
      (k : ℕ) (other : Text) → k < suc i → slice_get (asked_calls p) k ≡ Some other → Has other
  had making i before zero other less at = subst Has (same_text [] other at) making
  had making i before (suc k) other less at =
      let below : k < i = omega (arith, less) in before k below other at

  -- a call is, and none before it
  pub call_lacks : Has [] → (i : ℕ) (call : Text) →
      slice_get (calls_of p) i ≡ Some call →
      ((k : ℕ) → k < i → (y : Text) → slice_get (calls_of p) k ≡ Some y → Has y) →
      (f : ToolFault) →
      (f ≡ faults.Memory) ⊎ LacksOrIsNone o reference classes (making_of p) call f →
      Fault f
  call_lacks making i call here before f (inl is) = inl is
  call_lacks making i call here before f (inr bad) = inr (record {
    call = call;
    place = suc i;
    here = here;
    before = had making i before;
    fault = bad;
  })
