-- What a course tells of a fed thread, if what follows goes on: one equation for each way to put courses together.
use Rattle.std.proofs.Common.{◌≡◌, ℕ, List, refl}
use Rattle.ls_events.specs.declared.kind.Kind.{Kind}
use Rattle.ls_code.specs.Fed.{Fed}
use Rattle.ls_code.specs.Fed as fed
use Rattle.ls_lowered.specs.Course.{Answers, Course, Asks, Ends, Stuck, Outcome, Results, Throws, finish, and_then}
use Rattle.ls_lowered.specs.Course.{Told, Asked, Gave, Raised, Lost, returned}
use Rattle.ls_lowered.specs.Statements.{Completion, Normal, Returned, Threw, Left, on_word, on_normal, on_throw}
use Rattle.ls_lowered.specs.Statements.{on_leave, on_body, turn_back}
use Rattle.ls_emit.specs.Entering.{told_by}

-- what follows a value and a throw of an expression
abbrev pub After : Type 0 → Type 0
After A = A → List ℕ → Answers → Fed

-- what an expression's course tells, with what follows its word or its throw
abbrev pub out : {A : Type 0} → Course (Outcome A) → After A → After Kind → Fed
out (Asks action) go h = fed.Asked action
out (Ends (Results x) ls q) go h = go x ls q
out (Ends (Throws kind) ls q) go h = h kind ls q
out Stuck go h = fed.Lost

-- one expression, and then another
pub out_then : {A B : Type 0} (x : Course (Outcome A)) (f : A → List ℕ → Answers → Course (Outcome B)) (go : After B)
    (h : After Kind) →
    out (and_then x f) go h ≡ out x (λ w ls q. out (f w ls q) go h) h
out_then (Asks action) f go h = refl
out_then (Ends (Results x) ls q) f go h = refl
out_then (Ends (Throws kind) ls q) f go h = refl
out_then Stuck f go h = refl

-- what a call tells its caller
pub out_returned : (told : Told) (ls : List ℕ) (go : After ℕ) (h : After Kind) →
    out (returned ls told) go h ≡ told_by told (λ w q. go w ls q) (λ kind q. h kind ls q)
out_returned (Asked action) ls go h = refl
out_returned (Gave word rest) ls go h = refl
out_returned (Raised kind rest) ls go h = refl
out_returned Lost ls go h = refl

-- what follows a statement
abbrev pub Go : Type 0
Go = Completion → List ℕ → Answers → Fed

-- what a statement's course tells, with what follows each completion
abbrev pub end : Course Completion → Go → Fed
end (Asks action) g = fed.Asked action
end (Ends completion ls q) g = g completion ls q
end Stuck g = fed.Lost

-- an expression, and then the rest of a statement
pub end_word : (x : Course (Outcome ℕ)) (f : ℕ → List ℕ → Answers → Course Completion) (g : Go) →
    end (finish x (on_word f)) g ≡ out x (λ w ls q. end (f w ls q) g) (λ kind ls q. g (Threw kind) ls q)
end_word (Asks action) f g = refl
end_word (Ends (Results x) ls q) f g = refl
end_word (Ends (Throws kind) ls q) f g = refl
end_word Stuck f g = refl

-- the same but for a normal end, a throw, a leave
abbrev pub if_normal : Go → (List ℕ → Answers → Fed) → Go
if_normal g f Normal ls q = f ls q
if_normal g f (Returned w) ls q = g (Returned w) ls q
if_normal g f (Threw kind) ls q = g (Threw kind) ls q
if_normal g f (Left n) ls q = g (Left n) ls q

-- what follows, with another way on after a throw
abbrev pub if_thrown : Go → After Kind → Go
if_thrown g f Normal ls q = g Normal ls q
if_thrown g f (Returned w) ls q = g (Returned w) ls q
if_thrown g f (Threw kind) ls q = f kind ls q
if_thrown g f (Left n) ls q = g (Left n) ls q

-- what follows, with another way on after a leave
abbrev pub if_left : Go → After ℕ → Go
if_left g f Normal ls q = g Normal ls q
if_left g f (Returned w) ls q = g (Returned w) ls q
if_left g f (Threw kind) ls q = g (Threw kind) ls q
if_left g f (Left n) ls q = f n ls q

-- a statement before others
pub end_normal : (x : Course Completion) (f : List ℕ → Answers → Course Completion) (g : Go) →
    end (finish x (on_normal f)) g ≡ end x (if_normal g (λ ls q. end (f ls q) g))
end_normal (Asks action) f g = refl
end_normal (Ends Normal ls q) f g = refl
end_normal (Ends (Returned w) ls q) f g = refl
end_normal (Ends (Threw kind) ls q) f g = refl
end_normal (Ends (Left n) ls q) f g = refl
end_normal Stuck f g = refl

-- a guarded region
pub end_thrown : (x : Course Completion) (f : Kind → List ℕ → Answers → Course Completion) (g : Go) →
    end (finish x (on_throw f)) g ≡ end x (if_thrown g (λ kind ls q. end (f kind ls q) g))
end_thrown (Asks action) f g = refl
end_thrown (Ends Normal ls q) f g = refl
end_thrown (Ends (Returned w) ls q) f g = refl
end_thrown (Ends (Threw kind) ls q) f g = refl
end_thrown (Ends (Left n) ls q) f g = refl
end_thrown Stuck f g = refl

-- the body of a leavable statement
pub end_left : (x : Course Completion) (f : ℕ → List ℕ → Answers → Course Completion) (g : Go) →
    end (finish x (on_leave f)) g ≡ end x (if_left g (λ n ls q. end (f n ls q) g))
end_left (Asks action) f g = refl
end_left (Ends Normal ls q) f g = refl
end_left (Ends (Returned w) ls q) f g = refl
end_left (Ends (Threw kind) ls q) f g = refl
end_left (Ends (Left n) ls q) f g = refl
end_left Stuck f g = refl

-- the body of a loop
pub end_body : (x : Course Completion) (again : List ℕ → Answers → Course Completion) (g : Go) →
    end (finish x (on_body again)) g ≡ end x (if_normal g (λ ls q. end (turn_back again ls q) g))
end_body (Asks action) again g = refl
end_body (Ends Normal ls q) again g = refl
end_body (Ends (Returned w) ls q) again g = refl
end_body (Ends (Threw kind) ls q) again g = refl
end_body (Ends (Left n) ls q) again g = refl
end_body Stuck again g = refl
