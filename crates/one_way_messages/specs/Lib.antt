pub mod OneArrangement
