-- what a shelf in memory keeps, and when its next load is to fail
use Rattle.std.specs.Prelude.{◌≡◌, ℕ, List, Bool, ◌||◌, is_none, Option, Some, Result}
use Rattle.std.specs.FinMap.{get, insert}
use Rattle.io_edge.specs.Calls.{fails_next}
use Rattle.io_edge.specs.Shelves.{FileTable, StoreLeaves, names_after_load, names_after_store}
use Rattle.io_edge.specs.declared.faults.EdgeFault.{EdgeFault}
use Rattle.io_edge.specs.declared.faults.LoadFault.{LoadFault}
use Rattle.io_edge.specs.declared.calls.Calls.{Calls}
use Rattle.io_edge.specs.declared.memory_shelf.MemoryShelf.{MemoryShelf}

-- the files of the shelf
abbrev pub files_of : MemoryShelf → FileTable
files_of shelf = shelf.files

-- the names of all loads and stores so far
abbrev pub names_of : MemoryShelf → List (List ℕ)
names_of shelf = shelf.names

-- its calls, which are its loads and stores
abbrev pub calls_of : MemoryShelf → Calls
calls_of shelf = shelf.calls

-- how many of them failed
abbrev pub count_of : MemoryShelf → ℕ
count_of shelf = shelf.calls.failed

-- whether a load of this name fails: by the list, or since the name isn't there
abbrev pub fails_load : MemoryShelf → List ℕ → Bool
fails_load shelf name = fails_next shelf.calls || is_none (get shelf.files name)

-- the shelf with these bytes under the name, and all else as it was
abbrev pub with_file : MemoryShelf → List ℕ → List ℕ → MemoryShelf
with_file shelf name bytes = record shelf { files = insert shelf.files name bytes }

-- it tells its files
abbrev pub told_files : MemoryShelf → Option FileTable
told_files shelf = Some (files_of shelf)

-- and its names
abbrev pub told_names : MemoryShelf → Option (List (List ℕ))
told_names shelf = Some (names_of shelf)

-- a load leaves the names of its calls so
abbrev pub LoadLeavesNames : {B : Type 0} → MemoryShelf → MemoryShelf → List ℕ → Result B LoadFault
    → Type 0
LoadLeavesNames old new name result = told_names new ≡ names_after_load result (told_names old) name

-- and so does a store
abbrev pub StoreLeavesNames : {U : Type 0} → MemoryShelf → MemoryShelf → List ℕ → Result U EdgeFault
    → Type 0
StoreLeavesNames old new name result =
    told_names new ≡ names_after_store result (told_names old) name

-- a store leaves the files so
abbrev pub StoreLeavesFiles : {U : Type 0} → MemoryShelf → MemoryShelf → List ℕ → List ℕ
    → Result U EdgeFault → Type 0
StoreLeavesFiles old new name bytes result =
    StoreLeaves (told_files old) (told_files new) name bytes result
