pub mod RefusedLines
