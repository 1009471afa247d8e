-- Which places stand for which histories.
use Rattle.std.specs.Prelude.{◌≡◌, ◌⊎◌, ℕ, ◌<◌, ◌≤◌, Bool, true, List, Option, Some, length, slice_get}
use Rattle.ls_events.specs.Beginnings.{IsBeginning}
use Rattle.ls_history_numbers.specs.declared.numbering.Known.{Known}
use Rattle.ls_history_numbers.specs.Chosen.{chosen}

-- each place has a number that is there
abbrev pub AreThere : List Known → List ℕ → Type 0
AreThere all numbers = (at n : ℕ) → slice_get numbers at ≡ Some n → n < length all

-- the place has this number, and ends
pub record IsEnd (numbers : List ℕ) (ends : List Bool) (n at : ℕ) : Type 0 where
  pub has : slice_get numbers at ≡ Some n
  pub still : slice_get ends at ≡ Some true

-- this place was chosen for the number
abbrev pub IsChosen : List (Option ℕ) → ℕ → ℕ → Type 0
IsChosen choices n at = slice_get choices n ≡ Some (Some at)

-- the history of the first number begins that of the second
pub record IsBegun (all : List Known) (n m : ℕ) : Type 0 where
  pub first : Known
  pub first_is : slice_get all n ≡ Some first
  pub second : Known
  pub second_is : slice_get all m ≡ Some second
  pub begins : IsBeginning first.events.items second.events.items

-- a place was chosen for a number whose history begins so
pub record IsCovered (all : List Known) (choices : List (Option ℕ)) (n : ℕ) : Type 0 where
  pub number : ℕ
  pub place : ℕ
  pub chosen : IsChosen choices number place
  pub begun : IsBegun all n number

-- A place has the number, or a history goes on from that of the number.
abbrev pub Counts : List ℕ → List Bool → ℕ → Type 0
Counts numbers begun n = ((at : ℕ) × (slice_get numbers at ≡ Some n)) ⊎ (slice_get begun n ≡ Some true)

-- a number that counts is made from this one
pub record GoesOn (all : List Known) (numbers : List ℕ) (begun : List Bool) (n : ℕ) : Type 0 where
  pub number : ℕ
  pub later : 0 < number
  pub longer : Known
  pub longer_is : slice_get all number ≡ Some longer
  pub from : longer.before ≡ n
  pub counts : Counts numbers begun number

-- It is told of each number from which histories go on, for those that are made by numbers from a place on.
pub record TellBegun (all : List Known) (numbers : List ℕ) (begun : List Bool) (from : ℕ) : Type 0 where
  pub many : length begun ≡ length all
  pub goes : (n : ℕ) → slice_get begun n ≡ Some true → GoesOn all numbers begun n
  pub is : (m : ℕ) (k : Known) → slice_get all m ≡ Some k → 0 < m → from ≤ m → Counts numbers begun m →
      slice_get begun k.before ≡ Some true

-- ---- chosen places

-- the first place that ends, of each number, among those from a place on
pub record TellFirsts (numbers : List ℕ) (ends : List Bool) (firsts : List (Option ℕ)) (count from : ℕ) : Type 0 where
  pub many : length firsts ≡ count
  pub each : (n at : ℕ) → slice_get firsts n ≡ Some (Some at) → IsEnd numbers ends n at
  pub all : (n at : ℕ) → from ≤ at → IsEnd numbers ends n at →
      (first : ℕ) × (slice_get firsts n ≡ Some (Some first))

-- the last place of each number, among those before a place
pub record TellLasts (numbers : List ℕ) (lasts : List (Option ℕ)) (count to : ℕ) : Type 0 where
  pub many : length lasts ≡ count
  pub each : (n at : ℕ) → slice_get lasts n ≡ Some (Some at) → slice_get numbers at ≡ Some n
  pub all : (n at : ℕ) → at < to → slice_get numbers at ≡ Some n → (last : ℕ) × (slice_get lasts n ≡ Some (Some last))

-- of each of so many numbers, which place was chosen
pub record TellChoices (firsts lasts : List (Option ℕ)) (begun : List Bool) (choices : List (Option ℕ)) (count : ℕ) :
    Type 0 where
  pub many : length choices ≡ count
  pub each : (n : ℕ) (first last : Option ℕ) (b : Bool) → n < count → slice_get firsts n ≡ Some first →
      slice_get lasts n ≡ Some last → slice_get begun n ≡ Some b → slice_get choices n ≡ Some (chosen first last b)
