-- Programs whose calls are of synchronized methods of one object.
use Rattle.std.proofs.Common.{◌≡◌, ◌⊎◌, inl, inr, ℕ, zero, suc, ◌+◌, ◌<◌, true, false, List, [], ◌∷◌, ◌++◌}
use Rattle.std.proofs.Common.{length, refl, ap, ◌∙◌, subst, arith, get_or-set_same}
use Rattle.std.specs.Prelude.{nat_eq, slice_get, slice_index_or}
use Rattle.ls_events.specs.declared.value.Value.{Value}
use Rattle.ls_events.specs.declared.value.Value.TheVariants.{Reference}
use Rattle.ls_events.specs.declared.action.Action.TheVariants as act
use Rattle.ls_events.specs.declared.action.Answer.{Answer}
use Rattle.ls_events.specs.declared.action.Answer.TheVariants.{Done, Gives}
use Rattle.ls_checked.specs.CheckedTree.{File}
use Rattle.ls_checked.specs.CheckedProgram.{Program, ProgramCall, Making, Calling}
use Rattle.ls_meaning.specs.declared.sort.Sort.TheVariants.{NoValue}
use Rattle.ls_meaning.specs.Course.{Answers, Asks}
use Rattle.ls_meaning.specs.Statements.{Executed, AsksFor, Completes}
use Rattle.ls_meaning.specs.Expressions.{constructor_of}
use Rattle.ls_meaning.specs.Methods.{depth_limit}
use Rattle.ls_meaning.specs.Store.{Free, HeldBy, Object, Store, name_at}
use Rattle.ls_meaning.specs.Effect.{Does, fields_in}
use Rattle.ls_meaning.specs.Threads.{calls_in}
use Rattle.ls_meaning.specs.Runs.{source_history, start}
use Rattle.ls_linearizable.specs.Linearizable.{IsLinearizable}
use Rattle.ls_one_at_a_time.specs.Waiting.{NoThreadWaits}
use Rattle.ls_one_at_a_time.specs.Laws.{AllOneAtATime, NoneWaitOneAtATime, AreSynchronized, RunsOneAtATime}
use Rattle.ls_one_at_a_time.proofs.Onward.{GoesOn, GoesOnBy, IsCourse, LeavesNoneBy, SpentBy, invoke_course}
use Rattle.ls_one_at_a_time.proofs.Guarded.{IsHeldRound, guarded}
use Rattle.ls_one_at_a_time.proofs.Keeps.{HasMonitor, frees, inner_acts, inner_silent, inner_stays, takes, waits}
use Rattle.ls_one_at_a_time.proofs.Kit.{IsAsking, IsClosing, IsEntry, IsGood, IsGuarded, Kit}
use Rattle.ls_one_at_a_time.proofs.Standing.{AllGuarded}
use Rattle.ls_one_at_a_time.proofs.Alone.{all_linearizable, none_waits}
use Rattle.ls_one_at_a_time.proofs.Making.{IsMaking, Maker, making_of, new_there, not_null}

module _ (file : File) (program : Program) (o name : ℕ) where
  -- the monitor is so, and the setup name names its object
  pub record IsMonitor (hold : _) (s : Store) : Type 0 where
    pub monitor : HasMonitor s o hold
    pub named : name_at s name ≡ Reference o

  -- a call with the monitor round its whole body
  pub record Round : Type 0 where
    pub n : ℕ
    pub call : ProgramCall
    pub round : IsHeldRound file program o name n call

  abbrev StandsSo : Round → Answers → Type 0
  StandsSo b q = SpentBy b.round.slot b.round.kept (b.round.inner q)

  -- the monitor as runs see it
  abbrev pub monitors : Kit file program
  monitors = record {
    Idle = IsMonitor Free;
    Has = λ u. IsMonitor (HeldBy u 1);
    lock = act.LockMonitor o;
    unlock = act.UnlockMonitor o;
    lock_silent = λ t. refl;
    unlock_silent = λ t. refl;
    takes = λ s t h.
        let k = takes file.classes s o t h.monitor in record {
          store = k.store;
          does = k.does;
          after = record {
            monitor = k.monitor;
            named = ap (λ ns. slice_index_or ns name (Reference 0)) k.names
                ∙ h.named;
          };
        };
    frees = λ s t h.
        let k = frees file.classes s o t h.monitor in record {
          store = k.store;
          does = k.does;
          after = record {
            monitor = k.monitor;
            named = ap (λ ns. slice_index_or ns name (Reference 0)) k.names
                ∙ h.named;
          };
        };
    waits = λ s u t ne h. waits file.classes s o t u 1 ne h.monitor;
    Body = Round;
    Stands = StandsSo;
  }

  abbrev before : ℕ → Answers
  before zero = Done ∷ []
  before (suc zero) = Done ∷ Gives (Reference o) ∷ []
  before (suc (suc n)) = Done ∷ Gives (Reference o) ∷ Done ∷ []

  named_of : (s : Store) → IsGood file program monitors s → name_at s name ≡ Reference o
  named_of s (inl h) = h.named
  named_of s (inr (u, h)) = h.named

  module _ (n : ℕ) (c : ProgramCall) (r : IsHeldRound file program o name n c) where
    abbrev b : Round
    b = record { n = n; call = c; round = r }

    abbrev held : Answers → Answers
    held q = before 2 ++ Done ∷ q

    entries : (i : ℕ) → i < 2 → IsEntry file program monitors n c before i
    entries zero lt = record {
      action = act.ReadName name;
      sort = r.sort;
      answer = Gives (Reference o);
      asks = r.read;
      does = λ s t good. ap (λ v. Does s (Gives v)) (named_of s good);
      silent = λ t. refl;
      more = refl;
    }
    entries (suc zero) lt = record {
      action = act.Enter r.method;
      sort = NoValue;
      answer = Done;
      asks = r.enter;
      does = λ s t good. refl;
      silent = λ t. refl;
      more = refl;
    }
    entries (suc (suc i)) lt = absurd (omega arith)

    stands_so : (q : Answers) → StandsSo b q →
        IsAsking file program monitors n c b held q ⊎ IsClosing file program monitors n c b held q
    stands_so q spent = by_inner (r.inner q) refl spent
      where
        by_inner : (e : Executed) → r.inner q ≡ e → SpentBy r.slot r.kept (r.inner q) →
            IsAsking file program monitors n c b held q ⊎ IsClosing file program monitors n c b held q
        by_inner (AsksFor a sort) is spent = inl (record {
          action = a;
          sort = sort;
          asks = r.inside q a sort is;
          silent = λ t. inner_silent t a (onward Done).0;
          acts = λ s t. inner_acts file.classes s t a (onward Done).0;
          goes = λ s store t x h does.
              let stays = inner_stays file.classes o (HeldBy t 1) s store t a x h.monitor (onward x).0 does in (
                record {
                  monitor = stays.monitor;
                  named = ap (λ ns. slice_index_or ns name (Reference 0)) stays.names ∙ h.named;
                },
                (onward x).1,
              );
        })
          where
            onward : (x : Answer Value) → GoesOnBy r.slot r.kept x (AsksFor a sort) (r.inner (q ++ x ∷ []))
            onward x = subst (λ e. GoesOnBy r.slot r.kept x e (r.inner (q ++ x ∷ []))) is ((r.course x).on q).is
        by_inner (Completes d ls rest) is spent =
            let none : LeavesNoneBy r.slot r.kept (Completes d ls rest) =
            subst (LeavesNoneBy r.slot r.kept) is spent.is in
            let ended = is ∙ ap (Completes d ls) none.0 in
            inr (record { asks = r.unlock q d ls ended; ends = r.ends q d ls ended })

    pub in_kit : IsGuarded file program monitors n c
    in_kit = record {
      body = b;
      last = 2;
      before = before;
      begins = refl;
      call = r.call;
      entry = entries;
      locks = r.lock;
      first = (r.course Done).spent;
      stands = stands_so;
    }

module _ (file : File) (program : Program) (x : RunsOneAtATime file program) where
  abbrev Helps : ℕ → Type 0
  Helps m = x.helps m ≡ true

  abbrev m : IsMaking file program
  m = record {
    name = x.name;
    class = x.class;
    text = x.text;
    values = x.values;
    others = x.others;
    setup = x.setup;
    known = x.known;
  }

  -- a number of an object, which isn't null
  record IsNumber : Type 0 where
    object : ℕ
    set : nat_eq object 0 ≡ false

  all_guarded : (d : IsNumber) (cs : List ProgramCall) (n : ℕ) → AreSynchronized Helps file x.name cs →
      AllGuarded file program (monitors file program d.object x.name) n cs
  all_guarded d [] n c = tt
  all_guarded d (Making name class text values ∷ cs) n c = absurd c
  all_guarded d (Calling name method text result values ∷ cs) n c = (
    in_kit file program d.object x.name n (Calling name method text result values)
        (subst (λ z. IsHeldRound file program d.object z n (Calling name method text result values)) c.0
        (guarded Helps file x.helpers program d.object method name n d.set c.1 values text result)),
    all_guarded d cs (n + 1) c.2,
  )

  record IsBuilt (o : ℕ) (s : Store) (q : Answers) : Type 0 where
    set : nat_eq o 0 ≡ false
    free : HasMonitor s o Free

  making_course : (o : ℕ) (y : Answer Value) → IsCourse y (making_of file program m o)
  making_course o y = invoke_course y Helps file x.helpers depth_limit
      (constructor_of file.classes x.class) x.constructor
      (Reference o ∷ x.values)

  maker : Maker file program m
  maker = record {
    Made = IsNumber;
    kit = λ d. monitors file program d.object x.name;
    Builds = IsBuilt;
    course = making_course;
    new = record {
      set = not_null (length (start program).store.things);
      free = record {
        fields = fields_in (slice_get file.classes x.class);
        there = new_there (start program).store (Object Free (fields_in (slice_get file.classes x.class)));
      };
    };
    goes = λ o s store q a sort y h is does.
        let onward : GoesOn y (Asks a sort) (making_of file program m o (q ++ y ∷ [])) =
        subst (λ z. GoesOn y z (making_of file program m o (q ++ y ∷ []))) is ((making_course o y).on q).is in
        let stays = inner_stays file.classes o Free s store 0 a y h.free onward.0 does in
        (record { set = h.set; free = stays.monitor }, stays.names);
    ends = λ o s q v h is known. (
      record { object = o; set = h.set },
      record {
        monitor = record { fields = h.free.fields; there = h.free.there };
        named = get_or-set_same s.names x.name (Reference o) (Reference 0) known;
      },
    );
    others = λ d. all_guarded d x.others 2 x.more;
    calls = λ d t ne. all_guarded d (calls_in (slice_get program.threads t)) 1 (x.calls t ne);
  }

  pub monitors_linearizable : (schedule : List ℕ) → IsLinearizable file program (source_history file program schedule)
  monitors_linearizable = all_linearizable file program m maker

  pub monitors_wait : NoThreadWaits file program
  monitors_wait = none_waits file program m maker

-- the history of each schedule is linearizable
pub all_one_at_a_time : AllOneAtATime
all_one_at_a_time file program x schedule = monitors_linearizable file program x schedule

-- where no thread acts, none waits
pub none_wait_one_at_a_time : NoneWaitOneAtATime
none_wait_one_at_a_time file program x = monitors_wait file program x
