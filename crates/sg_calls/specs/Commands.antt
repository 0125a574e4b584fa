-- The commands: their names, and how many arguments each takes.
use Rattle.std.specs.Prelude.{ℕ, Bool, nat_eq, ◌||◌, codes, List, [], ◌∷◌, Option, Some, None, if◌then◌else◌}
use Rattle.std.specs.Map.{lookup}
use Rattle.std.specs.Option.{option_map, option_or}
use Rattle.std.specs.Str.{bytes_eq}
use Rattle.sg_rows.specs.declared.fault.Fault.{Fault}
use Rattle.sg_rows.specs.declared.fault.Fault.TheVariants.{UnknownName, WrongCount}
use Rattle.sg_rows_lists.specs.Lists as lists
use Rattle.sg_rows_constructors.specs.Makers as makers
use Rattle.sg_rows_invariants.specs.Facts as facts
use Rattle.sg_rows_symmetry.specs.Shapes as shapes
use Rattle.sg_rows_ideals.specs.Ideals as ideals
use Rattle.sg_rows_factorizations.specs.Commands as factorizations
use Rattle.sg_rows_presentations.specs.Commands as presentations
use Rattle.sg_rows_tame.specs.Commands as tames
use Rattle.sg_calls.specs.declared.command.Command.{Command}
use Rattle.sg_calls.specs.declared.command.Command.TheVariants.{Lists, Makers, Facts, Shapes, Ideals, Factorizations, Presentations, Tames, Shared}
use Rattle.sg_calls.specs.declared.command.Shared.TheVariants.{CatenaryDegree, Intersection, MinimalGenerators}
use Rattle.sg_calls.specs.declared.command.Folding.TheVariants.{EachValue, ThoseTrue, AllTrue, AnyTrue, CountTrue}
use Rattle.sg_calls.specs.declared.command.Word.{Word}
use Rattle.sg_calls.specs.declared.command.Word.TheVariants as word

-- the names that no family has
abbrev pub own_names : List (List ℕ × Word)
own_names =
    (codes "CatenaryDegree", word.Command (Shared CatenaryDegree))
    ∷ (codes "Filtered", word.Arrow ThoseTrue)
    ∷ (codes "ForAll", word.Arrow AllTrue)
    ∷ (codes "ForAny", word.Arrow AnyTrue)
    ∷ (codes "Intersection", word.Command (Shared Intersection))
    ∷ (codes "List", word.Arrow EachValue)
    ∷ (codes "MinimalGenerators", word.Command (Shared MinimalGenerators))
    ∷ (codes "Number", word.Arrow CountTrue)
    ∷ (codes "Print", word.Print)
    ∷ []

-- the command of a name in the first family that has it
abbrev pub family_command : List ℕ → Option Command
family_command name =
    option_or (option_map Lists (lists.named name))
    (option_or (option_map Makers (makers.named name))
    (option_or (option_map Facts (facts.named name))
    (option_or (option_map Shapes (shapes.named name))
    (option_or (option_map Ideals (ideals.named name))
    (option_or (option_map Factorizations (factorizations.named name))
    (option_or (option_map Presentations (presentations.named name))
    (option_map Tames (tames.named name))))))))

-- what a name stands for
unfoldable pub word_named : List ℕ → Option Word
word_named name = option_or (lookup (bytes_eq name) own_names) (option_map word.Command (family_command name))

abbrev pub command_of : Option Word → Option Command
command_of (Some (word.Command c)) = Some c
command_of _ = None

-- the command of values of a name
abbrev pub command_named : List ℕ → Option Command
command_named name = command_of (word_named name)

-- whether a command takes so many arguments
abbrev pub takes : Command → ℕ → Bool
takes (Lists c) n = lists.takes c n
takes (Makers c) n = makers.takes c n
takes (Facts c) n = facts.takes c n
takes (Shapes c) n = shapes.takes c n
takes (Ideals c) n = ideals.takes c n
takes (Factorizations c) n = factorizations.takes c n
takes (Presentations c) n = presentations.takes c n
takes (Tames c) n = tames.takes c n
takes (Shared CatenaryDegree) n = nat_eq n 1 || nat_eq n 2
takes (Shared Intersection) n = nat_eq n 2
takes (Shared MinimalGenerators) n = nat_eq n 1

-- a command, if there is one, and so many arguments: the fault for which the call is refused
abbrev pub checked_command : Option Command → ℕ → Option Fault
checked_command None n = Some UnknownName
checked_command (Some c) n = if takes c n then None else Some WrongCount

-- the fault for which a call is refused before its arguments are looked at: the name is no command's, or the command
-- does not take so many
abbrev pub checked : List ℕ → ℕ → Option Fault
checked name n = checked_command (command_named name) n
