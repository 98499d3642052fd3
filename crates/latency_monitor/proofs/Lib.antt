pub mod AnswerTypes
