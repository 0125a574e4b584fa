pub mod ExpressionLevels
pub mod StatementLevels
