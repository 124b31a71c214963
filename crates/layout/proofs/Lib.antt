pub mod WorkedStructs
