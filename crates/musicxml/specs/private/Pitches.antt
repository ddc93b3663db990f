-- A class as the code writes it.
use Rattle.std.specs.Prelude.{cond, List, [], ◌++◌, ℕ, eqb, length, take}
use Rattle.names.specs.Names.{flats, name_of}
use Rattle.musicxml.specs.declared.harmony.Around.{Around}

-- a name's letter, and an alter if the name has two bytes, with what is around them
unfoldable pub named_text : List ℕ → List ℕ → List ℕ → List ℕ → List ℕ → List ℕ
named_text name before step alter end = before ++ take 1 name ++ step ++ cond (eqb (length name) 2) alter [] ++ end

-- the same of a class
abbrev pub pitch_text : ℕ → Around → List ℕ
pitch_text class around =
    named_text (name_of flats class) around.before.now around.step.now around.alter.now around.end.now
