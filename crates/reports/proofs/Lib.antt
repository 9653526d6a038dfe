mod Aligned
mod TableLines
