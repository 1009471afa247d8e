-- What a function answers if it is refused, and how its answer is compared with what reading gives.
use Rattle.std.specs.Prelude.{◌≡◌, ◌<◌, ◌⊎◌, ℕ, List, length, Option, Some, None, IsSome, Result, Ok, Err}
use Rattle.ls_lexer.specs.declared.fault.TextFault.{TextFault}
use Rattle.ls_lexer.specs.declared.fault.TextFault.TheVariants as faults
use Rattle.ls_lexer.specs.Places.{StandsAt, text_limit}
use Rattle.ls_lexer.specs.Tokens.{tokens_of}

-- what a fault says; if it is "out of memory", nothing
abbrev pub Refuses : TextFault → Type 0 → Type 0
Refuses faults.Memory claim = Unit {0}
Refuses _ claim = claim

-- what a fault says that refuses tokens; it is "out of memory" or a fault of the grammar
abbrev pub RefusesTokens : TextFault → Type 0 → Type 0
RefusesTokens faults.Memory claim = Unit {0}
RefusesTokens faults.TooLong claim = ⊥
RefusesTokens (faults.BadByte at) claim = ⊥
RefusesTokens (faults.OpenComment at) claim = ⊥
RefusesTokens (faults.BadNumber at) claim = claim
RefusesTokens (faults.Syntax at) claim = claim
RefusesTokens (faults.TooDeep at) claim = claim

-- When each fault may come of a text. "Out of memory" may come at any time. "Too long" comes only of a text that is
-- too long. A fault of the lexer comes at its place, after gaps and tokens. A fault of the grammar comes only of a
-- text that has tokens. A bad number may be a fault of either.
abbrev pub MayCome : List ℕ → TextFault → Type 0
MayCome text faults.Memory = Unit {0}
MayCome text faults.TooLong = text_limit < length text
MayCome text (faults.BadByte at) = StandsAt text at (faults.BadByte at)
MayCome text (faults.OpenComment at) = StandsAt text at (faults.OpenComment at)
MayCome text (faults.BadNumber at) = StandsAt text at (faults.BadNumber at) ⊎ IsSome (tokens_of text)
MayCome text (faults.Syntax at) = IsSome (tokens_of text)
MayCome text (faults.TooDeep at) = IsSome (tokens_of text)

-- nothing is read, or memory ran out
abbrev pub Fails : {Y : Type 0} → TextFault → Option Y → Type 0
Fails e read = RefusesTokens e (read ≡ None)

-- seen by `view`, the answer is what is read, or memory ran out
abbrev pub ReadsAs : {X Y : Type 0} → (X → Y) → Result X TextFault → Option Y → Type 0
ReadsAs view (Ok x) read = read ≡ Some (view x)
ReadsAs view (Err e) read = Fails e read

abbrev pub Finds : {X Y : Type 0} → (X → Y) → Option X → Option Y → Type 0
Finds view (Some x) read = read ≡ Some (view x)
Finds view None read = read ≡ None
