-- What a function answers that may run out of memory, beside what is said of its answer. A fault means the refusal that
-- is said; "out of memory" means none, and may come at any time.
use Rattle.std.specs.Prelude.{◌≡◌, Option, Some, None, Result, Ok, Err}

-- what is said is the refusal that a fault means
abbrev pub Refuses : {Y F : Type 0} → Option F → Result Y F → Type 0
Refuses None said = Unit {0}
Refuses (Some f) said = said ≡ Err f

-- seen by `view`, the answer is what is said, or memory ran out
abbrev pub Gives : {X Y E F : Type 0} → (E → Option F) → (X → Y) → Result X E → Result Y F → Type 0
Gives means view (Ok x) said = said ≡ Ok (view x)
Gives means view (Err e) said = Refuses (means e) said

-- the refusal that a fault means may be given
abbrev pub MayRefuse : {Y F : Type 0} → Option F → (Result Y F → Type 0) → Type 0
MayRefuse None May = Unit {0}
MayRefuse (Some f) May = May (Err f)

-- seen by `view`, the answer is one that may be given, or memory ran out
abbrev pub GivesOne : {X Y E F : Type 0} → (E → Option F) → (X → Y) → (Result Y F → Type 0) → Result X E → Type 0
GivesOne means view May (Ok x) = May (Ok (view x))
GivesOne means view May (Err e) = MayRefuse (means e) May
