-- Events are the same exactly if the test says so.
use Rattle.std.proofs.Common.{◌≡◌, ℕ, zero, suc, ℤ, Bool, true, false, ◌&&◌, Some, None, refl, sym, ap, ◌∙◌}
use Rattle.std.specs.Cmp.{booleans_Decides, signed_Decides, unsigned_Decides}
use Rattle.ls_events.specs.declared.event.Event.{Event}
use Rattle.ls_events.specs.declared.event.Happening.{Happening}
use Rattle.ls_events.specs.declared.event.Happening.TheVariants.{Called, Returned, Trapped}
use Rattle.ls_events.specs.declared.kind.Kind.{Kind}
use Rattle.ls_events.specs.declared.kind.Kind.TheVariants as kind
use Rattle.ls_events.specs.declared.value.Value.TheVariants.{Int, Boolean, Reference, Pair}
use Rattle.ls_linearizable.specs.Same.{Digest, IsTest, digest, digest_of, kind_form, same_digest, same_event}

-- what a digest is of
kind_of : ℕ → Kind
kind_of zero = kind.Arithmetic
kind_of (suc zero) = kind.NullPointer
kind_of (suc (suc zero)) = kind.ArrayIndexOutOfBounds
kind_of (suc (suc (suc zero))) = kind.NegativeArraySize
kind_of (suc (suc (suc (suc zero)))) = kind.IllegalMonitorState
kind_of (suc (suc (suc (suc (suc zero))))) = kind.StackOverflow
kind_of (suc (suc (suc (suc (suc (suc n)))))) = kind.Error

kind_back : (k : Kind) → kind_of (kind_form k) ≡ k
unfolding kind_of
kind_back kind.Arithmetic = refl
kind_back kind.NullPointer = refl
kind_back kind.ArrayIndexOutOfBounds = refl
kind_back kind.NegativeArraySize = refl
kind_back kind.IllegalMonitorState = refl
kind_back kind.StackOverflow = refl
kind_back kind.Error = refl

by_form : ℕ → ℤ → ℕ → Bool → Happening
by_form zero n r m = Called
by_form (suc zero) n r m = Returned None
by_form (suc (suc zero)) n r m = Returned (Some (Int n))
by_form (suc (suc (suc zero))) n r m = Returned (Some (Boolean m))
by_form (suc (suc (suc (suc zero)))) n r m = Returned (Some (Reference r))
by_form (suc (suc (suc (suc (suc zero))))) n r m = Returned (Some (Pair r m))
by_form (suc (suc (suc (suc (suc (suc f)))))) n r m = Trapped (kind_of r)

happening_of : Digest → Happening
happening_of d = by_form d.form d.number d.reference d.mark

happening_back : (h : Happening) → happening_of (digest_of h) ≡ h
unfolding happening_of by_form
happening_back Called = refl
happening_back (Returned None) = refl
happening_back (Returned (Some (Int n))) = refl
happening_back (Returned (Some (Boolean b))) = refl
happening_back (Returned (Some (Reference r))) = refl
happening_back (Returned (Some (Pair r m))) = refl
happening_back (Trapped k) = ap Trapped (kind_back k)

-- ---- tests of parts

parts : (a b : Bool) → (a && b) ≡ true → (a ≡ true) × (b ≡ true)
parts true b g = (refl, g)
parts false b g = absurd cc

both : (a b : Bool) → a ≡ true → b ≡ true → (a && b) ≡ true
both true b h g = g
both false b h g = absurd cc

digest_is : (a b : Digest) → same_digest a b ≡ true → a ≡ b
digest_is a b h =
    let p = parts _ _ h in
    let q = parts _ _ p.1 in
    let r = parts _ _ q.1 in
    ap (λ f. digest f a.number a.reference a.mark) ((unsigned_Decides a.form b.form).0 p.0)
    ∙ ap (λ n. digest b.form n a.reference a.mark) ((signed_Decides a.number b.number).0 q.0)
    ∙ ap (λ x. digest b.form b.number x a.mark) ((unsigned_Decides a.reference b.reference).0 r.0)
    ∙ ap (digest b.form b.number b.reference) ((booleans_Decides a.mark b.mark).0 r.1)

digest_same : (a : Digest) → same_digest a a ≡ true
digest_same a =
    both _ _ ((unsigned_Decides a.form a.form).1 refl)
    (both _ _ ((signed_Decides a.number a.number).1 refl)
    (both _ _ ((unsigned_Decides a.reference a.reference).1 refl) ((booleans_Decides a.mark a.mark).1 refl)))

event_of : ℕ → ℕ → Happening → Event
event_of thread call happening = record { thread = thread; call = call; happening = happening }

event_is : (a b : Event) → same_event a b ≡ true → a ≡ b
unfolding event_of
event_is a b h =
    let p = parts _ _ h in
    let q = parts _ _ p.1 in
    let is : a.happening ≡ b.happening =
    sym (happening_back a.happening) ∙ ap happening_of (digest_is _ _ q.1) ∙ happening_back b.happening in
    ap (λ t. event_of t a.call a.happening) ((unsigned_Decides a.thread b.thread).0 p.0)
    ∙ ap (λ c. event_of b.thread c a.happening) ((unsigned_Decides a.call b.call).0 q.0)
    ∙ ap (event_of b.thread b.call) is

event_same : (a : Event) → same_event a a ≡ true
event_same a = both _ _ ((unsigned_Decides a.thread a.thread).1 refl)
    (both _ _ ((unsigned_Decides a.call a.call).1 refl) (digest_same (digest_of a.happening)))

pub event_test : IsTest same_event
event_test a b = (event_is a b, λ e. ap (same_event a) (sym e) ∙ event_same a)
