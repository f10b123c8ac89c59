-- What one step on a word tells the seat that makes it, as an atomic table's plays have it.
use Rattle.std.specs.Prelude.{◌≡◌, ℕ, ◌+◌, ◌*◌, ◌/◌, ◌≤◌, true, List, length, Some}
use Rattle.atomic_table.specs.Table.{Me, Step}
use Rattle.window_words.specs.Views.{after}
use Rattle.window_words.specs.Conditions.{AcceptedBelow, AcceptedOwn, IsBehindOwn, OwnStamp}
use Rattle.window_words.specs.Rule.{start}
use Rattle.window_words.specs.declared.views.View.{View}
use Rattle.window_words.specs.declared.views.Known.{Known}
use Rattle.window_words.specs.declared.views.Reading.{Reading}
use Rattle.window_words.specs.declared.views.Call.{Call}
use Rattle.window_words.specs.declared.views.Call.TheVariants.{Open, Put, Close, Begin, Read, End, Stop, Stopped}

-- a seat that knows what the windows mean
abbrev pub known : {M : Type 0} → M → View → Known M
known of v = record { of = Some of; view = v }

module _ {M : Type 0} where
  -- the seat knows what the call adds, and nothing else is changed
  abbrev pub Gains : ℕ → Call → ℕ → Me ℕ (Known M) → Me ℕ (Known M) → Type 0
  Gains leaders call n m m' =
      m' ≡ (record { of = m.0.of; view = after leaders call n m.0.view }, m.1)

  -- a store of an odd stamp tells which entry is opened
  abbrev pub opens : Step ℕ → Me ℕ (Known M) → ℕ → Me ℕ (Known M) → Type 0
  opens st m n m' = Gains 0 (Open ((st.first + 1) / 2)) 0 m m'

  abbrev pub puts : Step ℕ → Me ℕ (Known M) → ℕ → Me ℕ (Known M) → Type 0
  puts st m n m' = Gains 0 (Put st.first) 0 m m'

  abbrev pub closes : Step ℕ → Me ℕ (Known M) → ℕ → Me ℕ (Known M) → Type 0
  closes st m n m' = Gains 0 Close 0 m m'

  -- a load of a window's stamp tells which window it is
  abbrev pub begins : (M → ℕ → ℕ) → Step ℕ → Me ℕ (Known M) → ℕ → Me ℕ (Known M) → Type 0
  begins wide st m n m' =
      (of : M) (w : ℕ) → m.0.of ≡ Some of → st.word ≡ start (wide of) w
      → Gains 0 (Begin w) n m m' × AcceptedBelow m.0.view w n × OwnStamp m.0.view w n
      × AcceptedOwn m.0.view w

  abbrev pub reads : Step ℕ → Me ℕ (Known M) → ℕ → Me ℕ (Known M) → Type 0
  reads st m n m' = Gains 0 (Read 0) n m m'

  -- where a reading ends at the even stamp of entry k that it began at, and all words are read,
  -- they are the entry's
  abbrev pub IsEntry : (M → ℕ → ℕ → List ℕ) → (M → ℕ → ℕ) → (M → ℕ) → M → ℕ → Reading → Type 0
  IsEntry entry wide last of n r =
      (k : ℕ) → 1 ≤ k → r.first ≡ 2 * k → n ≡ r.first
      → (k ≤ last of) × (length r.words ≡ wide of r.window → r.words ≡ entry of r.window k)

  abbrev pub ends : (M → ℕ → ℕ → List ℕ) → (M → ℕ → ℕ) → (M → ℕ) → (M → ℕ) → Step ℕ → Me ℕ (Known M)
      → ℕ → Me ℕ (Known M) → Type 0
  ends entry wide lead last st m n m' =
      (of : M) (r : Reading) → m.0.of ≡ Some of → m.0.view.reading ≡ Some r
      → Gains (lead of) (End r.window) n m m' × IsEntry entry wide last of n r
      × IsBehindOwn (lead of) m.0.view r.window n

  abbrev pub stops : Step ℕ → Me ℕ (Known M) → ℕ → Me ℕ (Known M) → Type 0
  stops st m n m' = Gains 0 (Stop st.first) 0 m m'

  abbrev pub asks : Step ℕ → Me ℕ (Known M) → ℕ → Me ℕ (Known M) → Type 0
  asks st m n m' = Gains 0 Stopped n m m' × (m.0.view.hub ≡ true → n ≡ m.0.view.stopped)
