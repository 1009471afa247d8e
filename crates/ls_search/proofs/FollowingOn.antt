-- What a thread does at a state, while tables grow.
use Rattle.std.proofs.Common.{Bool, true, false, ◌<◌, ◌≤◌, ◌⊎◌, inl, inr, ◌+◌, ◌||◌, length, map, arith}
use Rattle.std.specs.Prelude.{slice_index_or}
use Rattle.std.proofs.lemmas.Bool.{cases_lt}
use Rattle.std.proofs.lemmas.Option.{get_or_from_slice_get, slice_get_past}
use Rattle.ls_meaning.specs.declared.step.Did.{Did}
use Rattle.ls_search.specs.declared.places.Looked.{Looked}
use Rattle.ls_search.specs.declared.places.Looked.TheVariants as looked
use Rattle.ls_search.specs.declared.space.Wanted.{Wanted}
use Rattle.ls_search.specs.Answers.{IsStuck}
use Rattle.ls_search.specs.Searched.{acts_of, waits_of}
use Rattle.ls_search.specs.Space.{IsEnd, IsSeenAs}
use Rattle.ls_transitions.proofs.Keeping.{there}
use Rattle.ls_search.proofs.Strides.{missing_stride}
use Rattle.std.proofs.Common.{◌≡◌, ℕ, List, refl, sym, ap, ◌∙◌, subst}
use Rattle.ls_events.specs.declared.event.Event.{Event}
use Rattle.ls_checked.specs.CheckedTree.{File}
use Rattle.ls_checked.specs.CheckedProgram.{Program}
use Rattle.ls_meaning.specs.declared.step.Did.TheVariants as did
use Rattle.ls_meaning.specs.Still.{IsActing, IsStill}
use Rattle.ls_search_laws.specs.Configuration.{Configuration, Stride, stride}
use Rattle.ls_search_laws.specs.Noticing.{Noticed, noticed_after}
use Rattle.ls_transitions.specs.declared.moves.Step.{Step}
use Rattle.ls_transitions.specs.declared.moves.Move.{Move}
use Rattle.ls_transitions.specs.declared.moves.Move.TheVariants as moves
use Rattle.ls_transitions.specs.Tables.{Table, Grows, Keeps}
use Rattle.ls_transitions.proofs.Growing.{grows_on}
use Rattle.ls_search.specs.declared.places.NumberedState.{NumberedState}
use Rattle.ls_search.specs.declared.space.Kept.{Kept}
use Rattle.ls_search.specs.Places.{IsThere, configuration_of}
use Rattle.ls_search.specs.Searched.{IsNode, Reaches, noticed_at}
use Rattle.ls_search.specs.Strides.{ActsBy, HasStarted, IsStrideBy}
use Rattle.ls_search.proofs.Pairs.{map_from, node_stays, pair_stays}
use Rattle.ls_search.proofs.Strides.{stays}
use Rattle.ls_search.specs.Space.{IsPlaced, weight_of}

-- it doesn't act
pub still : (t : Table) (c : Configuration) (works : List ℕ) (u : ℕ) (m : Move) (s : Stride) →
    ((step : Step) → m ≡ moves.Acts step → ⊥) →
    IsStrideBy t c works u m s →
    IsStill s.did
still t c works u moves.Ended s not is = subst IsStill (sym (ap (λ (z : Stride). z.did) is)) tt
still t c works u moves.Trapped s not is = subst IsStill (sym (ap (λ (z : Stride). z.did) is)) tt
still t c works u moves.Waits s not is = subst IsStill (sym (ap (λ (z : Stride). z.did) is)) tt
still t c works u (moves.Acts step) s not is = absurd (not step refl)

module _ {S : Type 0} (file : File) (threads : ℕ) (t : Table) (states : List S) (n : NumberedState)
    (file_is : t.file ≡ file) (node : IsNode t states threads n) (t' : Table) (grows : Grows t t') where
  same : configuration_of t' n ≡ configuration_of t n
  same = stays t t' n.store n.works.items grows node.numbers

  pub rests_here : (t'' : Table) (u : ℕ) (m : Move) → ((step : Step) → m ≡ moves.Acts step → ⊥) →
      IsStrideBy t'' (configuration_of t' n) n.works.items u m (stride t'.file (configuration_of t' n) u) →
      IsStill (stride file (configuration_of t n) u).did
  rests_here t'' u m not by =
      subst (λ (f : File). IsStill (stride f (configuration_of t n) u).did) (grows.file ∙ file_is)
      (subst (λ (c : Configuration). IsStill (stride t'.file c u).did) same
      (still t'' (configuration_of t' n) n.works.items u m (stride t'.file (configuration_of t' n) u) not by))

  pub started_here : (t'' : Table) (u : ℕ) → Grows t' t'' → HasStarted (configuration_of t' n) u →
      HasStarted (configuration_of t'' n) u
  started_here t'' u more started =
      subst (λ (c : Configuration). HasStarted c u)
      (same ∙ sym (stays t t'' n.store n.works.items (grows_on t t' t'' grows more) node.numbers)) started

  pub acts_here : (t'' : Table) (u : ℕ) (step : Step) → Grows t' t'' →
      ActsBy t'' n.works.items u step (stride t'.file (configuration_of t' n) u) →
      ActsBy t'' n.works.items u step (stride t''.file (configuration_of t'' n) u)
  acts_here t'' u step more acts =
      subst (λ (f : File). ActsBy t'' n.works.items u step (stride f (configuration_of t'' n) u)) (sym more.file)
      (subst (λ (c : Configuration). ActsBy t'' n.works.items u step (stride t'.file c u))
      (same ∙ sym (stays t t'' n.store n.works.items (grows_on t t' t'' grows more) node.numbers)) acts)

  pub acting_here : (t'' : Table) (u : ℕ) (step : Step) →
      ActsBy t'' n.works.items u step (stride t'.file (configuration_of t' n) u) →
      IsActing (stride file (configuration_of t n) u).did
  acting_here t'' u step acts =
      subst (λ (f : File). IsActing (stride f (configuration_of t n) u).did) (grows.file ∙ file_is)
      (subst (λ (c : Configuration). IsActing (stride t'.file c u).did) same
      (subst IsActing (sym (ap (λ (z : Stride). z.did) acts.is)) tt))

  pub did_here : (t'' : Table) (u : ℕ) (step : Step) →
      ActsBy t'' n.works.items u step (stride t'.file (configuration_of t' n) u) →
      (stride file (configuration_of t n) u).did ≡ did.Acted step.action step.answer
  did_here t'' u step acts =
      subst (λ (f : File). (stride f (configuration_of t n) u).did ≡ did.Acted step.action step.answer)
      (grows.file ∙ file_is)
      (subst (λ (c : Configuration). (stride t'.file c u).did ≡ did.Acted step.action step.answer) same
      (ap (λ (z : Stride). z.did) acts.is))

  -- what is reached from where tables have grown
  pub reaches_here : (first : S) (next : S → Event → S) (program : Program) (u steps : ℕ) (q : Noticed S) →
      Reaches t'.file (noticed_after first next t'.file program (noticed_at first t' states n) u) q u steps →
      Reaches file (noticed_after first next file program (noticed_at first t states n) u) q u steps
  reaches_here first next program u steps q h =
      subst (λ (f : File). Reaches f (noticed_after first next f program (noticed_at first t states n) u) q u steps)
      (grows.file ∙ file_is)
      (subst (λ (m : Noticed S). Reaches t'.file (noticed_after first next t'.file program m u) q u steps)
      (pair_stays first t t' states states grows (λ i x e. e) threads n node) h)

-- what is placed stays so, and stands for the same
pub placed_still : {S : Type 0} (file : File) (threads : ℕ) (first : S) (t t' : Table) (states states' : List S) →
    Grows t t' →
    Keeps states states' →
    (n : Kept) →
    IsPlaced file threads t states n →
    IsPlaced file threads t' states' n × (noticed_at first t' states' n.place ≡ noticed_at first t states n.place)
placed_still file threads first t t' states states' grows keeps n is = (
  record {
    file_is = grows.file ∙ is.file_is;
    constants = is.constants;
    node = node_stays first t t' states states' grows keeps threads n.place is.node;
    weight = subst (λ (c : Configuration). n.weight ≤ weight_of c)
        (sym (stays t t' n.place.store n.place.works.items grows is.node.numbers)) is.weight;
  },
  pair_stays first t t' states states' grows keeps threads n.place is.node,
)

-- where what is noted isn't bad, the state isn't looked for
pub no_end : {S N : Type 0} (first : S) (stands : N → S) (is_bad : S → Bool) (w : Wanted) (file : File) (t : Table)
    (values : List N) (n : NumberedState) →
    n.noted < length (map stands values) →
    is_bad (slice_index_or (map stands values) n.noted first) ≡ false →
    IsEnd stands is_bad w file (noticed_at first t (map stands values) n) →
    ⊥
no_end {S} first stands is_bad w file t values n within good end =
    let m = there (map stands values) n.noted within in
    let v = map_from stands values n.noted m.0 m.1 in
    no_both good (end.bad v.0 (v.2 ∙ sym (get_or_from_slice_get (map stands values) n.noted m.0 first m.1)))
  where
    no_both : {b : Bool} → b ≡ false → b ≡ true → ⊥
    no_both e f = cc

-- ---- what is seen of a thread's step

pub acting_seen : (l : Looked) (d : Did) → IsSeenAs l d → acts_of l ≡ true → IsActing d
acting_seen looked.Idle d is acts = cc
acting_seen looked.Waits d is acts = cc
acting_seen looked.Acts d is acts = is

pub idle_seen : (l : Looked) (d : Did) → IsSeenAs l d → acts_of l ≡ false → waits_of l ≡ false → d ≡ did.Waits → ⊥
idle_seen looked.Idle d is acts waits w = no_way (sym is ∙ w)
  where
    no_way : did.Idle ≡ did.Waits → ⊥
    no_way h = cc
idle_seen looked.Waits d is acts waits w = cc
idle_seen looked.Acts d is acts waits w = cc

or_off : (a b : Bool) → (a || b) ≡ false → (a ≡ false) × (b ≡ false)
or_off true b h = cc
or_off false b h = (refl, h)

module _ (file : File) (t : Table) (n : NumberedState) (threads : ℕ) (width : length n.works.items ≡ threads) where
  -- one more thread that doesn't wait
  pub free_more : (thread : ℕ) (l : Looked) (waits : Bool) →
      (waits ≡ false → (u : ℕ) → u < thread → (stride file (configuration_of t n) u).did ≡ did.Waits → ⊥) →
      IsSeenAs l (stride file (configuration_of t n) thread).did →
      acts_of l ≡ false →
      (waits || waits_of l) ≡ false →
      (u : ℕ) → u < thread + 1 → (stride file (configuration_of t n) u).did ≡ did.Waits → ⊥
  free_more thread l waits before seen acts off u less w = by_place (cases_lt u thread)
    where
      by_place : (u < thread) ⊎ (thread ≤ u) → ⊥
      by_place (inl h) = before (or_off waits (waits_of l) off).0 u h w
      by_place (inr h) =
          let same : u ≡ thread = omega (arith, h, less) in
          idle_seen l (stride file (configuration_of t n) thread).did seen acts (or_off waits (waits_of l) off).1
          (ap (λ v. (stride file (configuration_of t n) v).did) (sym same) ∙ w)

  -- where none of them waits, none does
  pub none_waits : ((u : ℕ) → u < threads → (stride file (configuration_of t n) u).did ≡ did.Waits → ⊥) →
      IsStuck file (configuration_of t n) →
      ⊥
  none_waits free stuck = by_place (cases_lt stuck.thread threads)
    where
      no_way : did.Idle ≡ did.Waits → ⊥
      no_way h = cc

      by_place : (stuck.thread < threads) ⊎ (threads ≤ stuck.thread) → ⊥
      by_place (inl h) = free stuck.thread h stuck.waits
      by_place (inr h) =
          let past : length n.works.items ≤ stuck.thread = omega (arith, h, width) in
          no_way
          (sym (ap (λ (s : Stride). s.did) (missing_stride file t n.store n.works.items stuck.thread
          (slice_get_past n.works.items stuck.thread past))) ∙ stuck.waits)

-- a thread that doesn't act is still
still_seen : (l : Looked) (d : Did) → IsSeenAs l d → acts_of l ≡ false → IsStill d
still_seen looked.Idle d is off = subst IsStill (sym is) tt
still_seen looked.Waits d is off = subst IsStill (sym is) tt
still_seen looked.Acts d is off = cc

waits_seen : (l : Looked) (d : Did) → IsSeenAs l d → waits_of l ≡ true → d ≡ did.Waits
waits_seen looked.Idle d is on = cc
waits_seen looked.Waits d is on = is
waits_seen looked.Acts d is on = cc

or_on : (a b : Bool) → (a || b) ≡ true → (a ≡ true) ⊎ (b ≡ true)
or_on true b h = inl refl
or_on false b h = inr h

module _ (file : File) (t : Table) (n : NumberedState) (threads : ℕ) (width : length n.works.items ≡ threads) where
  -- what a thread does there
  abbrev pub did_of : ℕ → Did
  did_of u = (stride file (configuration_of t n) u).did

  -- one more thread that doesn't act
  pub still_more : (thread : ℕ) (l : Looked) → ((u : ℕ) → u < thread → IsStill (did_of u)) →
      IsSeenAs l (did_of thread) →
      acts_of l ≡ false →
      (u : ℕ) → u < thread + 1 → IsStill (did_of u)
  still_more thread l before seen off u less = by_place (cases_lt u thread)
    where
      by_place : (u < thread) ⊎ (thread ≤ u) → IsStill (did_of u)
      by_place (inl h) = before u h
      by_place (inr h) =
          let same : thread ≡ u = omega (arith, h, less) in
          subst (λ v. IsStill (did_of v)) same (still_seen l (did_of thread) seen off)

  -- and that waits, or one before it does
  pub waits_more : (thread : ℕ) (l : Looked) (waits : Bool) →
      (waits ≡ true → (u : ℕ) × (did_of u ≡ did.Waits)) →
      IsSeenAs l (did_of thread) →
      (waits || waits_of l) ≡ true →
      (u : ℕ) × (did_of u ≡ did.Waits)
  waits_more thread l waits before seen on = by_one (or_on waits (waits_of l) on)
    where
      by_one : (waits ≡ true) ⊎ (waits_of l ≡ true) → (u : ℕ) × (did_of u ≡ did.Waits)
      by_one (inl h) = before h
      by_one (inr h) = (thread, waits_seen l (did_of thread) seen h)

  -- where none of them acts and one waits, the state is stuck
  pub all_still : ((u : ℕ) → u < threads → IsStill (did_of u)) → (u : ℕ) × (did_of u ≡ did.Waits) →
      IsStuck file (configuration_of t n)
  all_still still one = record { still = λ u. by_place u (cases_lt u threads); thread = one.0; waits = one.1 }
    where
      by_place : (u : ℕ) → (u < threads) ⊎ (threads ≤ u) → IsStill (did_of u)
      by_place u (inl h) = still u h
      by_place u (inr h) =
          let past : length n.works.items ≤ u = omega (arith, h, width) in
          subst IsStill
          (sym (ap (λ (s : Stride). s.did) (missing_stride file t n.store n.works.items u
          (slice_get_past n.works.items u past)))) tt

-- what is seen while tables grow was so before
pub seen_before : (t t' : Table) (n : NumberedState) → Grows t t' → IsThere t n → (u : ℕ) (l : Looked) →
    IsSeenAs l (stride t'.file (configuration_of t' n) u).did →
    IsSeenAs l (stride t.file (configuration_of t n) u).did
seen_before t t' n grows is u l seen =
    subst (λ (f : File). IsSeenAs l (stride f (configuration_of t n) u).did) grows.file
    (subst (λ (k : Configuration). IsSeenAs l (stride t'.file k u).did) (stays t t' n.store n.works.items grows is)
    seen)

-- what is stuck before tables grow is so after that, and the other way round
pub stuck_later : (t t' : Table) (n : NumberedState) → Grows t t' → IsThere t n →
    IsStuck t.file (configuration_of t n) →
    IsStuck t'.file (configuration_of t' n)
stuck_later t t' n grows is stuck =
    subst (λ (f : File). IsStuck f (configuration_of t' n)) (sym grows.file)
    (subst (IsStuck t.file) (sym (stays t t' n.store n.works.items grows is)) stuck)

pub stuck_before : (t t' : Table) (n : NumberedState) → Grows t t' → IsThere t n →
    IsStuck t'.file (configuration_of t' n) →
    IsStuck t.file (configuration_of t n)
stuck_before t t' n grows is stuck =
    subst (λ (f : File). IsStuck f (configuration_of t n)) grows.file
    (subst (IsStuck t'.file) (stays t t' n.store n.works.items grows is) stuck)
