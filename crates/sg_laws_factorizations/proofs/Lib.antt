pub mod ElementsSettled
pub mod OneAnswer
pub mod SemigroupsSettled
