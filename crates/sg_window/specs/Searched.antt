-- How far what is held was searched for the end of the statement that begins there.
use Rattle.std.specs.Prelude.{◌≡◌, ℕ, ◌<◌, ◌≤◌, true, false, List, length}
use Rattle.sg_cut.specs.Cut.{Ends, IsUnfinished, starts_ignored}
use Rattle.sg_window.specs.Window.{State}

-- so many of the bytes hold no end of the statement that begins with the first, if it is known that one does
pub record IsSearched (rest : List ℕ) (searched : ℕ) : Type 0 where
  pub within : searched ≤ length rest
  pub begins : 0 < searched → starts_ignored rest ≡ false
  pub no_end : (size : ℕ) → size ≤ searched → ¬ Ends rest size

-- a statement begins with the first byte and does not end, and more bytes may end it
pub record StaysOpen (w : State) : Type 0 where
  pub not_ended : w.ended ≡ false
  pub open_ : IsUnfinished w.rest true 0
