-- Why `see` in src/walking.rt keeps its contract and what it calls with.

use Rattle.std.proofs.Common.{◌≡◌, ◌≤◌, ◌∙◌, ℕ, false, List, sym, ap, subst, arith}
use Rattle.ls_code.specs.Machine.{Machine}
use Rattle.ls_machine.specs.Saved.{Standing, standing}
use Rattle.ls_preservation.specs.Acting.{first_did}
use Rattle.ls_explore.specs.Bursts.{IsSilentTo, burst}
use Rattle.ls_explore.specs.Walks.{is_silent, root_of, tried, walked}
use Rattle.ls_explore.proofs.Loops.{root_same}
use Rattle.ls_explore.proofs.Walks.{few_enough, seen_acts, seen_at, seen_did, seen_none, silent_tried}
use Rattle.ls_explore.proofs.walking.see.Goals as goal

-- where few steps are enough
module _ (few most : ℕ) (root : Machine) (path : List ℕ) (t : ℕ) where
  pub same_few : few ≤ most →
      is_silent (tried few (walked most root path) t).did ≡ false →
      tried few (walked most root path) t ≡ tried most (walked most root path) t
  same_few le loud = sym (few_enough few most (walked most root path) t le loud)

pub returns-then-not-is_silent-clause-did : goal.returns-then-not-is_silent-clause-did
returns-then-not-is_silent-clause-did c =
    let root : Machine = root_of c.args.machine.now c.args.ground.now.setup.now in
    let loud = ap is_silent (sym c.advance-did.ensures.did) ∙ (sym c.is_silent.ensures ∙ c.if-not-is_silent.true) in
    seen_did c.args.ground.now.most root c.args.place.now.path c.args.thread
    (tried c.min-few.result (walked c.args.ground.now.most root c.args.place.now.path) c.args.thread)
    (same_few c.min-few.result c.args.ground.now.most root c.args.place.now.path c.args.thread (omega arith) loud)
    c.advance-did.result c.advance-did.ensures.did

pub returns-then-not-is_silent-clause-acts : goal.returns-then-not-is_silent-clause-acts
returns-then-not-is_silent-clause-acts c = λ acted.
    let root : Machine = root_of c.args.machine.now c.args.ground.now.setup.now in
    let loud = ap is_silent (sym c.advance-did.ensures.did) ∙ (sym c.is_silent.ensures ∙ c.if-not-is_silent.true) in
    seen_acts c.args.ground.now.most root c.args.place.now.path c.args.thread
    (tried c.min-few.result (walked c.args.ground.now.most root c.args.place.now.path) c.args.thread)
    (same_few c.min-few.result c.args.ground.now.most root c.args.place.now.path c.args.thread (omega arith) loud)
    c.advance-did.result c.advance-did.new.machine c.advance-did.ensures.did c.advance-did.ensures.machine acted

pub returns-then-not-is_silent-clause-at : goal.returns-then-not-is_silent-clause-at
returns-then-not-is_silent-clause-at c = λ acted.
    let root : Machine = root_of c.args.machine.now c.args.ground.now.setup.now in
    let loud = ap is_silent (sym c.advance-did.ensures.did) ∙ (sym c.is_silent.ensures ∙ c.if-not-is_silent.true) in
    seen_at c.args.ground.now.most root c.args.place.now.path c.args.thread
    (tried c.min-few.result (walked c.args.ground.now.most root c.args.place.now.path) c.args.thread)
    (same_few c.min-few.result c.args.ground.now.most root c.args.place.now.path c.args.thread (omega arith) loud)
    c.advance-did.new.machine c.advance-did.ensures.machine

pub returns-then-not-is_silent-clause-none : goal.returns-then-not-is_silent-clause-none
returns-then-not-is_silent-clause-none c = λ quiet.
    let root : Machine = root_of c.args.machine.now c.args.ground.now.setup.now in
    let loud = ap is_silent (sym c.advance-did.ensures.did) ∙ (sym c.is_silent.ensures ∙ c.if-not-is_silent.true) in
    seen_none c.args.ground.now.most root c.args.place.now.path c.args.thread
    (tried c.min-few.result (walked c.args.ground.now.most root c.args.place.now.path) c.args.thread)
    (same_few c.min-few.result c.args.ground.now.most root c.args.place.now.path c.args.thread (omega arith) loud)
    c.advance-did.result c.advance-did.ensures.did quiet

pub goes_round-requires-clause-silent : goal.goes_round-requires-clause-silent
goes_round-requires-clause-silent c =
    let root : Machine = root_of c.args.machine.now c.args.ground.now.setup.now in
    let start : Machine = walked c.args.ground.now.most root c.args.place.now.path in
    let silent = ap is_silent (sym c.advance-did.ensures.did) ∙ (sym c.is_silent.ensures ∙ c.if-not-is_silent.false) in
    let same : root_of c.args.other.now c.args.ground.now.setup.now ≡ root = root_same c.args.machine.now
    c.args.other.now c.args.ground.now.setup.now (sym c.requires.code) (sym c.requires.cells) in
    subst (λ r. IsSilentTo c.min-few.result (walked c.args.ground.now.most r c.args.place.now.path) c.args.thread
    c.advance-did.new.machine) (sym same)
    (subst (λ z. IsSilentTo c.min-few.result start c.args.thread z) (sym c.advance-did.ensures.machine)
    (silent_tried c.min-few.result start c.args.thread silent))

pub returns-then-goes_round-clause-did : goal.returns-then-goes_round-clause-did
returns-then-goes_round-clause-did c =
    let never = c.goes_round.ensures.never c.if-goes_round.true c.args.ground.now.most in
    let same = root_same c.args.machine.now c.args.other.now c.args.ground.now.setup.now (sym c.requires.code)
    (sym c.requires.cells) in
    sym never.1 ∙ ap (λ r. first_did c.args.ground.now.most (walked c.args.ground.now.most r c.args.place.now.path)
    c.args.thread) same

pub returns-then-goes_round-clause-none : goal.returns-then-goes_round-clause-none
returns-then-goes_round-clause-none c = λ quiet.
    let never = c.goes_round.ensures.never c.if-goes_round.true c.args.ground.now.most in
    let same = root_same c.args.machine.now c.args.other.now c.args.ground.now.setup.now (sym c.requires.code)
    (sym c.requires.cells) in
    ap (λ r. burst c.args.ground.now.most (walked c.args.ground.now.most r c.args.place.now.path) c.args.thread)
    (sym same) ∙ never.0

-- what was saved, for another machine of the same code and cells
module _ (most : ℕ) (m m' : Machine) (setup path : List ℕ) (s : Standing) (code : m'.code ≡ m.code)
    (cells : m'.cells.limit ≡ m.cells.limit) where
  pub saved_same : s ≡ standing (walked most (root_of m setup) path) →
      s ≡ standing (walked most (root_of m' setup) path)
  saved_same is = is ∙ ap (λ r. standing (walked most r path)) (sym (root_same m m' setup code cells))

pub goes_round-requires-clause-saves : goal.goes_round-requires-clause-saves
goes_round-requires-clause-saves c =
    saved_same c.args.ground.now.most c.args.machine.now c.args.other.now c.args.ground.now.setup.now
    c.args.place.now.path c.args.place.now.saved.now (sym c.requires.code) (sym c.requires.cells)
    c.requires.saves

pub advance-requires : goal.advance-requires
advance-requires c =
    saved_same c.args.ground.now.most c.args.machine.now c.goes_round.new.machine c.args.ground.now.setup.now
    c.args.place.now.path c.args.place.now.saved.now
    (c.goes_round.ensures.code ∙ c.advance-did.ensures.code) (c.goes_round.ensures.cells ∙ c.advance-did.ensures.cells)
    c.requires.saves

-- with as many steps as may be
module _ (most : ℕ) (m m' : Machine) (setup path : List ℕ) (t : ℕ) (code : m'.code ≡ m.code)
    (cells : m'.cells.limit ≡ m.cells.limit) where
  pub same_root : tried most (walked most (root_of m' setup) path) t ≡ tried most (walked most (root_of m setup) path) t
  same_root = ap (λ r. tried most (walked most r path) t) (root_same m m' setup code cells)

pub returns-clause-did : goal.returns-clause-did
returns-clause-did c =
    let setup : List ℕ = c.args.ground.now.setup.now in
    seen_did c.args.ground.now.most (root_of c.args.machine.now setup) c.args.place.now.path c.args.thread
    (tried c.args.ground.now.most (walked c.args.ground.now.most (root_of c.goes_round.new.machine setup)
    c.args.place.now.path) c.args.thread)
    (same_root c.args.ground.now.most c.args.machine.now c.goes_round.new.machine setup c.args.place.now.path
    c.args.thread (c.goes_round.ensures.code ∙ c.advance-did.ensures.code)
    (c.goes_round.ensures.cells ∙ c.advance-did.ensures.cells)) c.advance.result c.advance.ensures.did

pub returns-clause-acts : goal.returns-clause-acts
returns-clause-acts c = λ acted.
    let setup : List ℕ = c.args.ground.now.setup.now in
    seen_acts c.args.ground.now.most (root_of c.args.machine.now setup) c.args.place.now.path c.args.thread
    (tried c.args.ground.now.most (walked c.args.ground.now.most (root_of c.goes_round.new.machine setup)
    c.args.place.now.path) c.args.thread)
    (same_root c.args.ground.now.most c.args.machine.now c.goes_round.new.machine setup c.args.place.now.path
    c.args.thread (c.goes_round.ensures.code ∙ c.advance-did.ensures.code)
    (c.goes_round.ensures.cells ∙ c.advance-did.ensures.cells)) c.advance.result c.advance.new.machine
    c.advance.ensures.did c.advance.ensures.machine acted

pub returns-clause-at : goal.returns-clause-at
returns-clause-at c = λ acted.
    let setup : List ℕ = c.args.ground.now.setup.now in
    seen_at c.args.ground.now.most (root_of c.args.machine.now setup) c.args.place.now.path c.args.thread
    (tried c.args.ground.now.most (walked c.args.ground.now.most (root_of c.goes_round.new.machine setup)
    c.args.place.now.path) c.args.thread)
    (same_root c.args.ground.now.most c.args.machine.now c.goes_round.new.machine setup c.args.place.now.path
    c.args.thread (c.goes_round.ensures.code ∙ c.advance-did.ensures.code)
    (c.goes_round.ensures.cells ∙ c.advance-did.ensures.cells)) c.advance.new.machine c.advance.ensures.machine

pub returns-clause-none : goal.returns-clause-none
returns-clause-none c = λ quiet.
    let setup : List ℕ = c.args.ground.now.setup.now in
    seen_none c.args.ground.now.most (root_of c.args.machine.now setup) c.args.place.now.path c.args.thread
    (tried c.args.ground.now.most (walked c.args.ground.now.most (root_of c.goes_round.new.machine setup)
    c.args.place.now.path) c.args.thread)
    (same_root c.args.ground.now.most c.args.machine.now c.goes_round.new.machine setup c.args.place.now.path
    c.args.thread (c.goes_round.ensures.code ∙ c.advance-did.ensures.code)
    (c.goes_round.ensures.cells ∙ c.advance-did.ensures.cells)) c.advance.result c.advance.ensures.did quiet
