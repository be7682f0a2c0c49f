-- What a change does to a version, as rules on byte lists.
use Rattle.std.specs.Prelude.{ℕ, Bool, true, false, ◌+◌, ◌-◌, ◌==◌, List, [], ◌∷◌, ◌++◌, length, take, drop, replicate}
use Rattle.s4_types.specs.declared.changes.Change.{Change}
use Rattle.s4_types.specs.declared.changes.Change.TheVariants.{Create, Delete, Write, Truncate, SetAttr, SetWindow, Flush, FlushO}
use Rattle.s4_types.specs.declared.versions.Version.{Version}
use Rattle.s4_types.specs.declared.versions.Version.TheVariants.{Absent, Live}

-- a list cut to a size, or lengthened to it by zeros
abbrev pub resized : ℕ → List ℕ → List ℕ
resized size content = take size content ++ replicate (size - length content) 0

-- Bytes placed at an offset, with zeros between the old end and the offset, and what lay after them as it
-- was. No bytes change nothing.
abbrev pub written : ℕ → List ℕ → List ℕ → List ℕ
written offset [] content = content
written offset (b ∷ bs) content = resized offset content ++ (b ∷ bs) ++ drop (offset + length (b ∷ bs)) content

-- what a version becomes by a change of its object at a moment
abbrev pub effect : Change → ℕ → Version → Version
effect (Create object attribute) moment version = Live [] attribute moment moment
effect (Delete object) moment version = Absent
effect (Write object offset bytes) moment Absent = Absent
effect (Write object offset bytes) moment (Live content attribute created changed) = Live (written offset bytes content) attribute created moment
effect (Truncate object size) moment Absent = Absent
effect (Truncate object size) moment (Live content attribute created changed) = Live (resized size content) attribute created moment
effect (SetAttr object new_attribute) moment Absent = Absent
effect (SetAttr object new_attribute) moment (Live content attribute created changed) = Live content new_attribute created moment
effect (SetWindow window) moment version = version
effect (Flush first last) moment version = version
effect (FlushO object first last) moment version = version

-- whether a change makes a version of this object
abbrev pub is_change_of : ℕ → Change → Bool
is_change_of o (Create object attribute) = object == o
is_change_of o (Delete object) = object == o
is_change_of o (Write object offset bytes) = object == o
is_change_of o (Truncate object size) = object == o
is_change_of o (SetAttr object attribute) = object == o
is_change_of o (SetWindow window) = false
is_change_of o (Flush first last) = false
is_change_of o (FlushO object first last) = false

-- the object that a change is of; 0 for SetWindow and Flush, which are of none or of all
abbrev pub object_of : Change → ℕ
object_of (Create object attribute) = object
object_of (Delete object) = object
object_of (Write object offset bytes) = object
object_of (Truncate object size) = object
object_of (SetAttr object attribute) = object
object_of (SetWindow window) = 0
object_of (Flush first last) = 0
object_of (FlushO object first last) = object

-- a change that neither sets the window nor hides moments
abbrev pub is_of_versions : Change → Bool
is_of_versions (SetWindow window) = false
is_of_versions (Flush first last) = false
is_of_versions (FlushO object first last) = false
is_of_versions _ = true
