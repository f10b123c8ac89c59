-- what shelves tell of their files and of the names of their calls
use Rattle.std.specs.Prelude.{◌≡◌, ◌≢◌, ℕ, ◌≤◌, ◌<◌, length, Bool, true, false, List, [], ◌∷◌, ◌++◌, Option, None, Some, Result, Ok, Err, IfSome, IsSomeAnd, Vec, option_map}
use Rattle.std.specs.Ordering.{nat_cmp}
use Rattle.std.specs.Cmp.Lexicographic.{slice_cmp}
use Rattle.std.specs.FinMap.{FinMap, get, insert}
use Rattle.std.specs.declared.alloc.Global.{Global}
use Rattle.io_edge.specs.Faults.{edge_refused, load_refused}
use Rattle.io_edge.specs.declared.faults.LoadFault.{LoadFault}
use Rattle.io_edge.specs.declared.faults.LoadFault.TheVariants as load
use Rattle.io_edge.specs.declared.faults.EdgeFault.{EdgeFault}
use Rattle.io_edge.specs.declared.faults.EdgeFault.TheVariants as edge

-- what files hold: from the bytes of a name to the bytes under it
abbrev pub FileTable : Type 0
FileTable = FinMap (slice_cmp nat_cmp) (List ℕ)

-- the names of the calls so far, where they are told, after a call of this name; one that was
-- refused memory puts none to them
abbrev pub names_after : Bool → Option (List (List ℕ)) → List ℕ → Option (List (List ℕ))
names_after true names name = names
names_after false names name = option_map (λ known. known ++ name ∷ []) names

-- the same after a load
abbrev pub names_after_load : {B : Type 0} → Result B LoadFault → Option (List (List ℕ)) → List ℕ
    → Option (List (List ℕ))
names_after_load result names name = names_after (load_refused result) names name

-- and after a store
abbrev pub names_after_store : {U : Type 0} → Result U EdgeFault → Option (List (List ℕ)) → List ℕ
    → Option (List (List ℕ))
names_after_store result names name = names_after (edge_refused result) names name

-- these bytes stand under the name, where the files are told
abbrev pub Holds : Option FileTable → List ℕ → List ℕ → Type 0
Holds files name bytes = IfSome files (λ table. get table name ≡ Some bytes)

-- more bytes than the limit stand under the name, where the files are told
abbrev pub IsOver : Option FileTable → List ℕ → ℕ → Type 0
IsOver files name limit =
    IfSome files (λ table. IsSomeAnd (get table name) (λ bytes. limit < length bytes))

-- a load asks for memory: bytes stand under the name, at least one and within the limit
abbrev pub AsksMemory : FileTable → List ℕ → ℕ → Type 0
AsksMemory table name limit =
    IsSomeAnd (get table name) (λ bytes. (0 < length bytes) × (length bytes ≤ limit))

-- what a load answers: the bytes under the name where they are within the limit, and TooLong where
-- they are more
abbrev pub LoadGives : Option FileTable → List ℕ → ℕ → Result (Vec ℕ Global) LoadFault → Type 0
LoadGives files name limit (Ok loaded) =
    Holds files name loaded.items × (length loaded.items ≤ limit)
LoadGives files name limit (Err load.Failed) = Unit {0}
LoadGives files name limit (Err load.TooLong) = IsOver files name limit
LoadGives files name limit (Err load.Memory) = Unit {0}

-- every other name holds what it held
abbrev pub OthersStay : Option FileTable → Option FileTable → List ℕ → Type 0
OthersStay None after name = after ≡ None
OthersStay (Some old) after name =
    IsSomeAnd after (λ new. (other : List ℕ) → other ≢ name → get new other ≡ get old other)

-- what a store leaves: the bytes under the name where it is done; where it fails, all other files
abbrev pub StoreLeaves : {U : Type 0} → Option FileTable → Option FileTable → List ℕ → List ℕ
    → Result U EdgeFault → Type 0
StoreLeaves before after name bytes (Ok _) =
    after ≡ option_map (λ table. insert table name bytes) before
StoreLeaves before after name bytes (Err edge.Failed) = OthersStay before after name
StoreLeaves before after name bytes (Err edge.Memory) = after ≡ before
