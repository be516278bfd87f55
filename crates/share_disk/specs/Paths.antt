-- The paths of the files of a folder.
use Rattle.std.specs.Prelude.{ℕ, List, ◌∷◌, ◌++◌}
use Rattle.share_catalog.specs.Names.{file_text}
use Rattle.share_catalog.specs.declared.names.FileKind.{FileKind}

-- a name in a folder
abbrev pub path_to : List ℕ → List ℕ → List ℕ
path_to folder name = folder ++ 47 ∷ name

-- a file of a book
abbrev pub path_of : List ℕ → ℕ → FileKind → List ℕ
path_of folder number kind = path_to folder (file_text (record { number = number; kind = kind }))
