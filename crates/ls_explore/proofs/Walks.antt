-- Steps of threads, one by one.
use Rattle.std.proofs.Common.{◌≡◌, ℕ, zero, suc, ◌+◌, true, false, List, [], ◌∷◌, ◌++◌, Option, Some, None, refl, sym}
use Rattle.std.proofs.Common.{ap, ◌∙◌, arith, subst, length, drop, get_or, ◌<◌, ◌≤◌}
use Rattle.std.proofs.lemmas.List.{drop_more, drop_all}
use Rattle.ls_code.specs.Machine.{Machine, machine_step}
use Rattle.ls_code.specs.declared.step.Did.{Did}
use Rattle.ls_code.specs.declared.step.Did.TheVariants as did
use Rattle.ls_preservation.specs.Acting.{first_did, or_later}
use Rattle.ls_machine.specs.Back.{RunsKeep}
use Rattle.ls_explore.specs.Bursts.{IsSilentTo, acted_or, burst}
use Rattle.ls_explore.proofs.Rounds.{never_acts}
use Rattle.ls_explore.specs.Walks.{Tried, has_acted, is_silent, tried, tried_or, walked}

pub silent_is : (d : Did) → is_silent d ≡ true → did.Silent ≡ d
silent_is did.Silent e = refl
silent_is (did.Acted a x) e = absurd cc
silent_is did.Waits e = absurd cc
silent_is did.Idle e = absurd cc
silent_is did.Stopped e = absurd cc

tried_or_silent : (d : Did) (m : Machine) (later : Tried) → is_silent d ≡ true → tried_or d m later ≡ later
tried_or_silent d m later e = ap (λ x. tried_or x m later) (sym (silent_is d e))

tried_or_loud : (d : Did) (m : Machine) (later : Tried) →
    is_silent d ≡ false →
    tried_or d m later ≡ record { machine = m; did = d }
tried_or_loud did.Silent m later e = absurd cc
tried_or_loud (did.Acted a x) m later e = refl
tried_or_loud did.Waits m later e = refl
tried_or_loud did.Idle m later e = refl
tried_or_loud did.Stopped m later e = refl

pub tried_none : (m : Machine) (t : ℕ) → tried 0 m t ≡ record { machine = m; did = did.Silent }
unfolding tried
tried_none m t = refl

pub tried_one : (n : ℕ) (m : Machine) (t : ℕ) →
    tried (suc n) m t ≡ tried_or (machine_step m t).did (machine_step m t).machine
    (tried n (machine_step m t).machine t)
unfolding tried
tried_one n m t = refl

-- one more step, whatever it did
pub tried_more : (n k : ℕ) (m next : Machine) (t : ℕ) (d : Did) →
    n ≡ k + 1 →
    next ≡ (machine_step m t).machine →
    d ≡ (machine_step m t).did →
    tried n m t ≡ tried_or d next (tried k next t)
tried_more n k m next t d e is did =
    let e' : n ≡ suc k = omega arith in
    ap (λ i. tried i m t) e' ∙ tried_one k m t
    ∙ ap (λ z. tried_or (machine_step m t).did z (tried k z t)) (sym is)
    ∙ ap (λ z. tried_or z next (tried k next t)) (sym did)

-- what is left of a thread's steps, behind one of them
pub tried_now : (n k : ℕ) (m next : Machine) (t : ℕ) (d : Did) (whole : Tried) →
    n ≡ k + 1 →
    next ≡ (machine_step m t).machine →
    d ≡ (machine_step m t).did →
    tried n m t ≡ whole →
    whole ≡ tried_or d next (tried k next t)
tried_now n k m next t d whole e is did h = sym h ∙ tried_more n k m next t d e is did

pub tried_over : (n : ℕ) (m : Machine) (t : ℕ) (whole : Tried) →
    n ≡ 0 →
    tried n m t ≡ whole →
    whole ≡ record { machine = m; did = did.Silent }
tried_over n m t whole e h = sym h ∙ ap (λ i. tried i m t) e ∙ tried_none m t

-- a silent step leaves the rest to be tried, and another ends it
pub tried_goes_on : (n k : ℕ) (m next : Machine) (t : ℕ) (d : Did) (whole : Tried) →
    n ≡ k + 1 →
    next ≡ (machine_step m t).machine →
    d ≡ (machine_step m t).did →
    is_silent d ≡ true →
    tried n m t ≡ whole →
    tried k next t ≡ whole
tried_goes_on n k m next t d whole e is did silent h =
    sym (tried_or_silent d next (tried k next t) silent) ∙ sym (tried_now n k m next t d whole e is did h)

pub tried_ends : (n k : ℕ) (m next : Machine) (t : ℕ) (d : Did) (whole : Tried) →
    n ≡ k + 1 →
    next ≡ (machine_step m t).machine →
    d ≡ (machine_step m t).did →
    is_silent d ≡ false →
    tried n m t ≡ whole →
    record { machine = next; did = d } ≡ whole
tried_ends n k m next t d whole e is did loud h =
    sym (tried_or_loud d next (tried k next t) loud) ∙ sym (tried_now n k m next t d whole e is did h)

-- what is tried is the first that isn't silent
first_or : (m : Machine) (later : Tried) (first : Did) →
    later.did ≡ first →
    (d : Did) →
    (tried_or d m later).did ≡ or_later d first
first_or m later first e did.Silent = e
first_or m later first e (did.Acted a x) = refl
first_or m later first e did.Waits = refl
first_or m later first e did.Idle = refl
first_or m later first e did.Stopped = refl

pub tried_first : (n : ℕ) (m : Machine) (t : ℕ) → (tried n m t).did ≡ first_did n m t
unfolding tried
tried_first zero m t = refl
tried_first (suc n) m t =
    first_or (machine_step m t).machine (tried n (machine_step m t).machine t)
    (first_did n (machine_step m t).machine t)
    (tried_first n (machine_step m t).machine t) (machine_step m t).did

-- where it isn't silent, more steps change nothing
same_or : (m : Machine) (few more : Tried) →
    (is_silent few.did ≡ false → more ≡ few) →
    (d : Did) →
    is_silent (tried_or d m few).did ≡ false →
    tried_or d m more ≡ tried_or d m few
same_or m few more h did.Silent loud = h loud
same_or m few more h (did.Acted a x) loud = refl
same_or m few more h did.Waits loud = refl
same_or m few more h did.Idle loud = refl
same_or m few more h did.Stopped loud = refl

pub few_enough : (k n : ℕ) (m : Machine) (t : ℕ) →
    k ≤ n →
    is_silent (tried k m t).did ≡ false →
    tried n m t ≡ tried k m t
unfolding tried
few_enough zero n m t le loud = absurd cc
few_enough (suc k) zero m t le loud = absurd (omega arith)
few_enough (suc k) (suc n) m t le loud =
    same_or (machine_step m t).machine (tried k (machine_step m t).machine t) (tried n (machine_step m t).machine t)
    (few_enough k n (machine_step m t).machine t (omega arith)) (machine_step m t).did loud

-- where it is silent, so was each step
silent_by : (n : ℕ) (m : Machine) (t : ℕ) →
    (is_silent (tried n (machine_step m t).machine t).did ≡ true →
    IsSilentTo n (machine_step m t).machine t (tried n (machine_step m t).machine t).machine) →
    (d : Did) →
    (machine_step m t).did ≡ d →
    is_silent (tried_or d (machine_step m t).machine (tried n (machine_step m t).machine t)).did ≡ true →
    IsSilentTo (suc n) m t (tried_or d (machine_step m t).machine (tried n (machine_step m t).machine t)).machine
silent_by n m t rest did.Silent e h = (e, rest h)
silent_by n m t rest (did.Acted a x) e h = absurd cc
silent_by n m t rest did.Waits e h = absurd cc
silent_by n m t rest did.Idle e h = absurd cc
silent_by n m t rest did.Stopped e h = absurd cc

pub silent_tried : (n : ℕ) (m : Machine) (t : ℕ) →
    is_silent (tried n m t).did ≡ true →
    IsSilentTo n m t (tried n m t).machine
unfolding tried
silent_tried zero m t h = refl
silent_tried (suc n) m t h = silent_by n m t (silent_tried n (machine_step m t).machine t) (machine_step m t).did refl h

pub walked_none : (n : ℕ) (m : Machine) → walked n m [] ≡ m
unfolding walked
walked_none n m = refl

pub walked_one : (n : ℕ) (m : Machine) (t : ℕ) (ts : List ℕ) → walked n m (t ∷ ts) ≡ walked n (tried n m t).machine ts
unfolding walked
walked_one n m t ts = refl

pub walked_step : (n : ℕ) (m next : Machine) (path : List ℕ) (i d : ℕ) (whole : Machine) →
    i < length path →
    next ≡ (tried n m (get_or path i d)).machine →
    walked n m (drop i path) ≡ whole →
    walked n next (drop (i + 1) path) ≡ whole
walked_step n m next path i d whole lt is h =
    ap (λ z. walked n z (drop (i + 1) path)) is
    ∙ sym (walked_one n m (get_or path i d) (drop (i + 1) path))
    ∙ ap (walked n m) (sym (drop_more path i d lt))
    ∙ h

pub walked_over : (n : ℕ) (m : Machine) (path : List ℕ) (i : ℕ) (whole : Machine) →
    length path ≤ i →
    walked n m (drop i path) ≡ whole →
    m ≡ whole
walked_over n m path i whole past h = sym (walked_none n m) ∙ ap (walked n m) (sym (drop_all i path past)) ∙ h

pub walked_more : (n : ℕ) (m : Machine) (ts : List ℕ) (t : ℕ) →
    walked n m (ts ++ t ∷ []) ≡ (tried n (walked n m ts) t).machine
unfolding walked
walked_more n m [] t = refl
walked_more n m (u ∷ us) t = walked_more n (tried n m u).machine us t

-- a thread's steps as a burst
Is : Option Machine → Tried → Type 0
Is o r = (has_acted r.did ≡ true → o ≡ Some r.machine) × (has_acted r.did ≡ false → o ≡ None)

is_or : (m : Machine) (o : Option Machine) (r : Tried) → Is o r → (d : Did) → Is (acted_or d m o) (tried_or d m r)
unfolding Is
is_or m o r h (did.Acted a x) = (λ e. refl, λ e. absurd cc)
is_or m o r h did.Silent = h
is_or m o r h did.Waits = (λ e. absurd cc, λ e. refl)
is_or m o r h did.Idle = (λ e. absurd cc, λ e. refl)
is_or m o r h did.Stopped = (λ e. absurd cc, λ e. refl)

is_burst : (n : ℕ) (m : Machine) (t : ℕ) → Is (burst n m t) (tried n m t)
unfolding burst tried Is
is_burst zero m t = (λ e. absurd cc, λ e. refl)
is_burst (suc n) m t = is_or (machine_step m t).machine (burst n (machine_step m t).machine t)
    (tried n (machine_step m t).machine t) (is_burst n (machine_step m t).machine t) (machine_step m t).did

pub burst_acted : (n : ℕ) (m : Machine) (t : ℕ) →
    has_acted (tried n m t).did ≡ true →
    burst n m t ≡ Some (tried n m t).machine
unfolding Is
burst_acted n m t = (is_burst n m t).0

pub burst_none : (n : ℕ) (m : Machine) (t : ℕ) → has_acted (tried n m t).did ≡ false → burst n m t ≡ None
unfolding Is
burst_none n m t = (is_burst n m t).1

-- the same of what a thread does first
pub burst_first : (n : ℕ) (m : Machine) (t : ℕ) (d : Did) →
    d ≡ first_did n m t →
    has_acted d ≡ true →
    (m' : Machine) × (burst n m t ≡ Some m')
burst_first n m t d e acted = (
  (tried n m t).machine,
  burst_acted n m t
      (ap has_acted (tried_first n m t ∙ sym e) ∙ acted),
)

pub none_first : (n : ℕ) (m : Machine) (t : ℕ) (d : Did) →
    d ≡ first_did n m t →
    has_acted d ≡ false →
    burst n m t ≡ None
none_first n m t d e acted = burst_none n m t (ap has_acted (tried_first n m t ∙ sym e) ∙ acted)

-- what is seen of a thread, from what was tried of it
module _ (most : ℕ) (root : Machine) (path : List ℕ) (t : ℕ) (r : Tried)
    (same : r ≡ tried most (walked most root path) t) where
  pub seen_did : (d : Did) → d ≡ r.did → d ≡ first_did most (walked most root path) t
  seen_did d e = e ∙ ap (λ (x : Tried). x.did) same ∙ tried_first most (walked most root path) t

  pub seen_acts : (d : Did) (new : Machine) →
      d ≡ r.did →
      new ≡ r.machine →
      has_acted d ≡ true →
      burst most (walked most root path) t ≡ Some new
  seen_acts d new e is acted =
      burst_acted most (walked most root path) t (ap has_acted (sym (e ∙ ap (λ (x : Tried). x.did) same)) ∙ acted)
      ∙ ap Some (sym (is ∙ ap (λ (x : Tried). x.machine) same))

  pub seen_at : (new : Machine) → new ≡ r.machine → new ≡ walked most root (path ++ t ∷ [])
  seen_at new is = is ∙ ap (λ (x : Tried). x.machine) same ∙ sym (walked_more most root path t)

  pub seen_none : (d : Did) → d ≡ r.did → has_acted d ≡ false → burst most (walked most root path) t ≡ None
  seen_none d e acted = burst_none most (walked most root path) t
      (ap has_acted (sym (e ∙ ap (λ (x : Tried). x.did) same)) ∙ acted)

-- the code and the number of cells stay
Keeps : Machine → Machine → Type 0
Keeps m m' = (m'.code ≡ m.code) × (m'.cells.limit ≡ m.cells.limit)

module _ (keep : RunsKeep) where
  keeps_or : (m m1 : Machine) (r : Tried) →
      Keeps m m1 →
      Keeps m r.machine →
      (d : Did) →
      Keeps m (tried_or d m1 r).machine
  keeps_or m m1 r h g (did.Acted a x) = h
  keeps_or m m1 r h g did.Silent = g
  keeps_or m m1 r h g did.Waits = h
  keeps_or m m1 r h g did.Idle = h
  keeps_or m m1 r h g did.Stopped = h

  tried_kept : (n : ℕ) (m : Machine) (t : ℕ) → Keeps m (tried n m t).machine
  unfolding tried Keeps
  tried_kept zero m t = (refl, refl)
  tried_kept (suc n) m t =
      let one : Keeps m (machine_step m t).machine = keep m (t ∷ []) in
      let rest = tried_kept n (machine_step m t).machine t in
      keeps_or m (machine_step m t).machine (tried n (machine_step m t).machine t) one (rest.0 ∙ one.0, rest.1 ∙ one.1)
      (machine_step m t).did

  walked_kept : (n : ℕ) (m : Machine) (ts : List ℕ) → Keeps m (walked n m ts)
  unfolding walked Keeps
  walked_kept n m [] = (refl, refl)
  walked_kept n m (t ∷ ts) =
      let one = tried_kept n m t in
      let rest = walked_kept n (tried n m t).machine ts in
      (rest.0 ∙ one.0, rest.1 ∙ one.1)

  pub tried_keeps : (n : ℕ) (m : Machine) (t : ℕ) →
      ((tried n m t).machine.code ≡ m.code) × ((tried n m t).machine.cells.limit ≡ m.cells.limit)
  unfolding Keeps
  tried_keeps = tried_kept

  pub walked_keeps : (n : ℕ) (m : Machine) (ts : List ℕ) →
      ((walked n m ts).code ≡ m.code) × ((walked n m ts).cells.limit ≡ m.cells.limit)
  unfolding Keeps
  walked_keeps = walked_kept

-- silent steps, one more
pub silent_none : (m : Machine) (t : ℕ) → IsSilentTo 0 m t m
silent_none m t = refl

silent_end : (k : ℕ) (m a b : Machine) (t : ℕ) →
    IsSilentTo k m t a →
    did.Silent ≡ (machine_step a t).did →
    b ≡ (machine_step a t).machine →
    IsSilentTo (suc k) m t b
silent_end zero m a b t h e is = (
  ap (λ z. (machine_step z t).did) h ∙ sym e,
  ap (λ z. (machine_step z t).machine) h ∙
      sym is,
)
silent_end (suc k) m a b t h e is = (h.0, silent_end k (machine_step m t).machine a b t h.1 e is)

pub silent_more : (k j : ℕ) (m a b : Machine) (t : ℕ) →
    j ≡ k + 1 →
    IsSilentTo k m t a →
    did.Silent ≡ (machine_step a t).did →
    b ≡ (machine_step a t).machine →
    IsSilentTo j m t b
silent_more k j m a b t e h g is =
    let e' : suc k ≡ j = omega arith in
    subst (λ i. IsSilentTo i m t b) e' (silent_end k m a b t h g is)

pub silent_join : (k : ℕ) (m a b : Machine) (t : ℕ) → IsSilentTo k m t a → IsSilentTo 1 a t b → IsSilentTo (suc k) m t b
silent_join k m a b t h g = silent_end k m a b t h (sym g.0) (sym g.1)

pub silent_same : (k : ℕ) (m a b : Machine) (t : ℕ) → IsSilentTo k m t a → IsSilentTo k m t b → a ≡ b
silent_same zero m a b t h g = sym h ∙ g
silent_same (suc k) m a b t h g = silent_same k (machine_step m t).machine a b t h.1 g.1

-- both machines go the same way, and one of them comes round to the other
pub round_never : (k d : ℕ) (m a b : Machine) (t : ℕ) →
    IsSilentTo k m t a →
    IsSilentTo k m t b →
    IsSilentTo (suc d) a t b →
    (n : ℕ) →
    (burst n m t ≡ None) × (first_did n m t ≡ did.Silent)
round_never k d m a b t h g r =
    let is : a ≡ b = silent_same k m a b t h g in
    never_acts m a t k d h (subst (λ z. IsSilentTo (suc d) a t z) (sym is) r)
