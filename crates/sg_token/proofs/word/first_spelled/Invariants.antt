use Rattle.std.proofs.Common.{◌≡◌, drop}
use Rattle.std.specs.List.{find}
use Rattle.std.specs.Str.{bytes_eq}
use Rattle.sg_token.specs.ReservedWords.{spelling_of_word}
use Rattle.sg_token.proofs.word.first_spelled.Given as goal

-- the word is found among those that are left
abbrev pub invariant-loop-word : goal.invariant-loop-word
invariant-loop-word l = find (λ w. bytes_eq (spelling_of_word w) l.run) l.words ≡ find (λ w. bytes_eq (spelling_of_word w) l.run) (drop l.word-index l.words)
