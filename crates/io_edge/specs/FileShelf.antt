-- what a shelf over real files tells and keeps
use Rattle.std.specs.Prelude.{ℕ, List, Option, None, Result}
use Rattle.io_edge.specs.Shelves.{FileTable, StoreLeaves}
use Rattle.io_edge.specs.declared.faults.EdgeFault.{EdgeFault}
use Rattle.io_edge.specs.declared.file_shelf.FileShelf.{FileShelf}

-- it doesn't tell its files, since no contract can say what a file holds
abbrev pub files_of : {R : Type 0} → FileShelf R → Option FileTable
files_of shelf = None

-- nor the names of its calls
abbrev pub names_of : {R : Type 0} → FileShelf R → Option (List (List ℕ))
names_of shelf = None

-- how many loads and stores failed
abbrev pub count_of : {R : Type 0} → FileShelf R → ℕ
count_of shelf = shelf.faults

-- a store leaves the files so
abbrev pub StoreLeavesFiles : {R U : Type 0} → FileShelf R → FileShelf R → List ℕ → List ℕ
    → Result U EdgeFault → Type 0
StoreLeavesFiles old new name bytes result =
    StoreLeaves (files_of old) (files_of new) name bytes result
