-- Faults of tokens as faults of a text.
use Rattle.std.specs.Prelude.{◌≡◌}
use Rattle.sg_token.specs.declared.token.TokenFault.{TokenFault}
use Rattle.sg_token.specs.declared.token.TokenFault.TheVariants as token_fault
use Rattle.sg_script.specs.declared.fault.ParseFault.{ParseFault}
use Rattle.sg_script.specs.declared.fault.ParseFault.TheVariants as fault

-- the same fault, of the text
abbrev pub IsSameFault : TokenFault → ParseFault → Type 0
IsSameFault token_fault.Syntax f = f ≡ fault.Syntax
IsSameFault (token_fault.Memory cause) f = f ≡ fault.Memory cause
