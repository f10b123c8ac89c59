-- what a shelf in memory without a failing call keeps
use Rattle.std.specs.Prelude.{◌≡◌, ℕ, List, Option, Some, Result}
use Rattle.io_edge.specs.MemoryShelf as memory
use Rattle.io_edge.specs.Shelves.{FileTable, StoreLeaves, names_after_load, names_after_store}
use Rattle.io_edge.specs.declared.faults.EdgeFault.{EdgeFault}
use Rattle.io_edge.specs.declared.faults.LoadFault.{LoadFault}
use Rattle.io_edge.specs.declared.sure_shelf.SureShelf.{SureShelf}

-- the files of the shelf
abbrev pub files_of : SureShelf → FileTable
files_of shelf = memory.files_of shelf.shelf

-- the names of all loads and stores so far
abbrev pub names_of : SureShelf → List (List ℕ)
names_of shelf = memory.names_of shelf.shelf

-- how many loads were of a name that wasn't there
abbrev pub count_of : SureShelf → ℕ
count_of shelf = memory.count_of shelf.shelf

-- the shelf with these bytes under the name, and all else as it was
abbrev pub IsWithFile : SureShelf → List ℕ → List ℕ → SureShelf → Type 0
IsWithFile old name bytes new = new.shelf ≡ memory.with_file old.shelf name bytes

-- it tells its files
abbrev pub told_files : SureShelf → Option FileTable
told_files shelf = Some (files_of shelf)

-- and its names
abbrev pub told_names : SureShelf → Option (List (List ℕ))
told_names shelf = Some (names_of shelf)

-- a load leaves the names of its calls so
abbrev pub LoadLeavesNames : {B : Type 0} → SureShelf → SureShelf → List ℕ → Result B LoadFault
    → Type 0
LoadLeavesNames old new name result = told_names new ≡ names_after_load result (told_names old) name

-- and so does a store
abbrev pub StoreLeavesNames : {U : Type 0} → SureShelf → SureShelf → List ℕ → Result U EdgeFault
    → Type 0
StoreLeavesNames old new name result =
    told_names new ≡ names_after_store result (told_names old) name

-- a store leaves the files so
abbrev pub StoreLeavesFiles : {U : Type 0} → SureShelf → SureShelf → List ℕ → List ℕ
    → Result U EdgeFault → Type 0
StoreLeavesFiles old new name bytes result =
    StoreLeaves (told_files old) (told_files new) name bytes result
